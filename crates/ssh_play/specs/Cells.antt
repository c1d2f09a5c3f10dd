-- How many characters the columns of a picture have together.
use Rattle.std.specs.Prelude.{ℕ, ◌+◌}
use Rattle.ssh_play.specs.declared.draw.layout.Columns.{Columns}

-- the characters of all four columns
abbrev pub cells_of : Columns → Columns → ℕ
cells_of client server = client.outer + client.inner + server.outer + server.inner
