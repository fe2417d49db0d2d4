-- The answers that requests take, where a guest is alone.
use Rattle.std.specs.Prelude.{◌≡◌, ℕ, List, [], ◌∷◌, ◌++◌, slice_get}
use Rattle.std.specs.Option.{option_to_list}
use Rattle.plain_machine.specs.Machine.{Setting}
use Rattle.plain_machine.specs.Own.{replaced}
use Rattle.block_ledger.specs.Ledger.{Ledger}
use Rattle.block_ledger.specs.Requests.{Asking, Request, AsksFile, AsksUnit, Offers, LetsGo, MakesBe, offers, partings, unit_asks}
use Rattle.cc_base.specs.Image.{Code}

-- the map answer that a request takes, where the modules are these files
abbrev pub answer_to : List ℕ → Request → List ℕ
answer_to files (AsksFile k) = option_to_list (slice_get files k)
answer_to files (AsksUnit i f) = []
answer_to files (Offers i addresses) = []
answer_to files (LetsGo i) = []
answer_to files (MakesBe k f) = []

-- the files of the modules behind it
abbrev pub files_behind : Setting → List ℕ → Request → List ℕ
files_behind w files (MakesBe k f) = replaced w files k f
files_behind w files (AsksFile k) = files
files_behind w files (AsksUnit i f) = files
files_behind w files (Offers i addresses) = files
files_behind w files (LetsGo i) = files

-- those of requests that come one after the other
abbrev pub answers_to : Setting → List ℕ → List Asking → List ℕ
answers_to w files [] = []
answers_to w files (a ∷ requests) = answer_to files a.request ++ answers_to w (files_behind w files a.request) requests

abbrev pub last_files : Setting → List ℕ → List Asking → List ℕ
last_files w files [] = files
last_files w files (a ∷ requests) = last_files w (files_behind w files a.request) requests

-- none of these takes an answer, or makes a module another file
pub record TakesNone (made : List Asking) : Type 0 where
  pub answers : (w : Setting) (files : List ℕ) (more : List Asking) → answers_to w files (made ++ more) ≡ answers_to w files more
  pub files : (w : Setting) (files : List ℕ) (more : List Asking) → last_files w files (made ++ more) ≡ last_files w files more

-- neither offers do, nor letting go, nor asking for units
abbrev pub OffersTakeNone : Type 0
OffersTakeNone = (is : List ℕ) (led : Ledger) → TakesNone (offers is led)

abbrev pub PartingsTakeNone : Type 0
PartingsTakeNone = (is : List ℕ) (led : Ledger) → TakesNone (partings is led)

abbrev pub UnitsTakeNone : Type 0
UnitsTakeNone = (k f seg : ℕ) (codes : List Code) (blocks : ℕ) → TakesNone (unit_asks k f seg codes blocks)
