-- The values of an end's role: its part in a key exchange, which its transport keeps, and the rest.
pub record RoleValue (X R : Type 0) : Type 0 where
  pub exchange : X
  pub own : R
