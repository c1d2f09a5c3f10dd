use Rattle.std.proofs.Common.{◌≡◌, All, None, [], map, take}
use Rattle.divrelca_c.specs.Embedded.Users.{entry_of}
use Rattle.divrelca_c.specs.Making.{IsTaken, entry_by, users_fault}
use Rattle.divrelca_c.proofs.making.users_in.Given as goal

-- the users who were put there are those before this one, and nothing was said
abbrev pub invariant-loop-user : goal.invariant-loop-user
invariant-loop-user l = record {
  users : map entry_of l.users.list.items ≡ map entry_by (take l.user-index l.given);
  taken : All IsTaken (take l.user-index l.given);
  faultless : users_fault (take l.user-index l.given) ≡ None;
  book : l.users.book.list.items ≡ [];
}
