-- What a unit stands for: a slot, an image, and a set of addresses in it. Its fragments are those that are built there.
use Rattle.std.specs.Prelude.{ℕ, ◌==◌, ◌&&◌, nat_lt, Bool, if◌then◌else◌, List, [], ◌∷◌}
use Rattle.std.specs.Str.{bytes_eq}
use Rattle.cc_base.specs.Image.{Code}
use Rattle.unit_set.specs.Slot.{Slot}
use Rattle.unit_set.specs.Held.{Held, addresses}

pub record Content : Type 0 where
  pub slot : Slot
  pub image : Code
  -- rising, each once
  pub addrs : List ℕ

abbrev pub content_of : Held → Content
content_of u = record { slot = u.slot; image = u.image; addrs = addresses u.frags }

-- the most addresses of a unit
abbrev pub most_addrs : ℕ
most_addrs = 16384

-- one address more, where it is not there
abbrev pub with_addr : ℕ → List ℕ → List ℕ
with_addr a [] = a ∷ []
with_addr a (b ∷ bs) = if nat_lt a b then a ∷ b ∷ bs else if a == b then b ∷ bs else b ∷ with_addr a bs

-- all of both
abbrev pub union : List ℕ → List ℕ → List ℕ
union addrs [] = addrs
union addrs (a ∷ more) = union (with_addr a addrs) more

-- the same start and bytes
abbrev pub same_code : Code → Code → Bool
same_code a b = (a.start == b.start) && bytes_eq a.bytes b.bytes
