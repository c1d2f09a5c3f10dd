-- The meaning of the extensions of this crate.
use Rattle.std.specs.Prelude.{ℕ, ◌^◌, Bool, ◌&&◌, nat_lt, List, length}
use Rattle.ssh_model.specs.Protocol.Wire.DataTypes.{IsUint32}
use Rattle.ssh_model.specs.Protocol.Wire.Message as model
use Rattle.ssh_model.specs.Protocol.Wire.Message.{◌▸◌, IsExtensions}
use Rattle.ssh_message.specs.declared.extensions.Extension.{Extension}
use Rattle.ssh_message.specs.declared.extensions.Extensions.{Extensions}
use Rattle.ssh_message.specs.declared.extensions.ExtensionsIter.{ExtensionsIter}
use Rattle.ssh_message.specs.declared.extensions.owned.ExtensionsBuf.{ExtensionsBuf}
use Rattle.ssh_message.specs.Extensions.{extensions_in}

abbrev pub extension_of : Extension → model.Extension
extension_of x = record { name = x.name.now; value = x.value.now }

abbrev pub extensions_of : Extensions → List model.Extension
extensions_of all = extensions_in all.count all.bytes.now

abbrev pub owned_extensions : ExtensionsBuf → List model.Extension
owned_extensions all = extensions_in all.count all.bytes.items

-- Name and value can be written as strings.
abbrev pub is_short : model.Extension → Bool
is_short x = nat_lt (length x.name) (2 ^ 32) && nat_lt (length x.value) (2 ^ 32)

-- the bytes after the number of an EXT_INFO: how many extensions there are, and then the extensions
abbrev pub IsAnnounced : List model.Extension → List ℕ → Type 0
IsAnnounced all = IsUint32 (length all) ▸ IsExtensions all

-- the extensions that an iterator has yet to give
abbrev pub extensions_left : ExtensionsIter → List model.Extension
extensions_left it = extensions_of it.rest
