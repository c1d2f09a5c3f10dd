-- What `{:?}` shows: of a message its number and its name, and of a method its name, but none of their texts.
use Rattle.std.specs.Prelude.{ℕ, List, ◌++◌, codes, decimal}
use Rattle.ssh_model.specs.Protocol.Wire.Message.{message_name, message_number}
use Rattle.ssh_message.specs.Meaning.{meaning}
use Rattle.ssh_message.specs.declared.message.Message.{Message}
use Rattle.ssh_message.specs.declared.message.Message.TheVariants as message
use Rattle.ssh_message.specs.declared.message.Method.{Method}
use Rattle.ssh_message.specs.declared.message.Method.TheVariants as method

-- the name of a method, or that it is another one
abbrev pub shown_method : Method → List ℕ
shown_method method.None = codes "none"
shown_method (method.Password password other) = codes "password"
shown_method (method.Publickey algorithm key signature) = codes "publickey"
shown_method (method.Other name rest) = codes "other"

-- the name of a message, or that it has none
abbrev pub shown_name : Message → List ℕ
shown_name (message.Unknown number) = codes "UNKNOWN"
shown_name it = message_name (message_number (meaning it))

-- the number of a message, and its name
abbrev pub shown_message : Message → List ℕ
shown_message it = decimal (message_number (meaning it)) ++ (codes " " ++ shown_name it)
