-- What files tell, as reads go on.
use Rattle.std.proofs.Common.{◌≡◌, ℕ, zero, suc, ◌+◌, ◌<◌, ◌≤◌, List, [], ◌∷◌, ◌++◌, length, take, get_or, Ok, Err, refl, ◌∙◌, subst, inl, inr, ⊎_elim, arith}
use Rattle.std.proofs.lemmas.Bool.Decides.{leb_tells}
use Rattle.fault_counts.specs.Counts.{Rose}
use Rattle.outside.specs.Told.{Told, ForContent}
use Rattle.host_text.specs.declared.cause.Cause.{Cause}
use Rattle.host_text.specs.declared.cause.Cause.TheVariants as causes
use Rattle.host.specs.Outcome.{Answer, Source, Agrees}
use Rattle.host.specs.Reading.{AreRead, Fails, ReadsFail}
use Rattle.host.specs.Seen.{source_of}

-- A part of a call: the contents are those of the whole, and its counts are between those of the whole.
pub record IsPart (whole part : Source) : Type 0 where
  pub content : (name : List ℕ) → part.content name ≡ whole.content name
  pub before : (name : List ℕ) → whole.before name ≤ part.before name
  pub within : (name : List ℕ) → part.before name ≤ part.after name
  pub after : (name : List ℕ) → part.after name ≤ whole.after name

-- ---- parts that follow one another

pub kept_on : {F : Type 0} (content : F → List ℕ → Told) (a b c : F) → ((n : List ℕ) → content b n ≡ content a n) → ((n : List ℕ) → content c n ≡ content b n) →
    (n : List ℕ) → content c n ≡ content a n
kept_on content a b c first second n = second n ∙ first n

pub less_on : {F : Type 0} (faults : F → List ℕ → ℕ) (a b c : F) → ((n : List ℕ) → faults a n ≤ faults b n) → ((n : List ℕ) → faults b n ≤ faults c n) →
    (n : List ℕ) → faults a n ≤ faults c n
less_on faults a b c first second n = let one = first n in let two = second n in omega (arith, one, two)

pub first_part : {F : Type 0} (content : F → List ℕ → Told) (faults : F → List ℕ → ℕ) (a b c : F) → ((n : List ℕ) → faults a n ≤ faults b n) →
    ((n : List ℕ) → faults b n ≤ faults c n) → IsPart (source_of content faults a c) (source_of content faults a b)
first_part content faults a b c first second = record {
  content = λ n. refl;
  before = λ n. omega arith;
  within = first;
  after = second;
}

pub last_part : {F : Type 0} (content : F → List ℕ → Told) (faults : F → List ℕ → ℕ) (a b c : F) → ((n : List ℕ) → content b n ≡ content a n) →
    ((n : List ℕ) → faults a n ≤ faults b n) → ((n : List ℕ) → faults b n ≤ faults c n) → IsPart (source_of content faults a c) (source_of content faults b c)
last_part content faults a b c kept first second = record {
  content = kept;
  before = first;
  within = second;
  after = λ n. omega arith;
}

pub middle_part : {F : Type 0} (content : F → List ℕ → Told) (faults : F → List ℕ → ℕ) (a b c d : F) → ((n : List ℕ) → content b n ≡ content a n) →
    ((n : List ℕ) → faults a n ≤ faults b n) → ((n : List ℕ) → faults b n ≤ faults c n) → ((n : List ℕ) → faults c n ≤ faults d n) →
    IsPart (source_of content faults a d) (source_of content faults b c)
middle_part content faults a b c d kept first second third = record { content = kept; before = first; within = second; after = third }

-- ---- what parts tell

-- a count that is the greatest, or has passed it
most_or_more : (a d : ℕ) → a ≤ d → 18446744073709551615 ≤ d → a ≤ 18446744073709551615 → Rose a d
most_or_more a d one two three =
    ⊎_elim (λ low. inr (omega (arith, two, low.1))) (λ high. inl (omega (arith, three, high.1))) (leb_tells d 18446744073709551615)

-- a count that rose in a part of a call rose in it
rose_too : (a b c d : ℕ) → a ≤ b → b ≤ c → c ≤ d → Rose b c → Rose a d
rose_too a b c d one two three (inl rose) = inl (omega (arith, one, rose, three))
rose_too a b c d one two three (inr most) = most_or_more a d (omega (arith, one, two, three)) (omega (arith, three, most)) (omega (arith, one, two, most))

pub agrees_too : (whole part : Source) (limit : ℕ) (name : List ℕ) (answer : Answer) → IsPart whole part → Agrees part limit name answer → Agrees whole limit name answer
agrees_too whole part limit name (Ok bytes) is agrees = (subst (λ t. ForContent t (λ content. bytes ≡ content)) (is.content name) agrees.0, agrees.1)
agrees_too whole part limit name (Err (causes.Unread n)) is agrees =
    (agrees.0, rose_too (whole.before name) (part.before name) (part.after name) (whole.after name) (is.before name) (is.within name) (is.after name) agrees.1)
agrees_too whole part limit name (Err (causes.Long n)) is agrees = (agrees.0, subst (λ t. ForContent t (λ content. limit < length content)) (is.content name) agrees.1)
agrees_too whole part limit name (Err causes.Memory) is agrees = tt
agrees_too whole part limit name (Err causes.Done) is agrees = absurd agrees
agrees_too whole part limit name (Err causes.GuestEnded) is agrees = absurd agrees
agrees_too whole part limit name (Err causes.Words) is agrees = absurd agrees
agrees_too whole part limit name (Err (causes.Manifest e)) is agrees = absurd agrees
agrees_too whole part limit name (Err (causes.Elf n e)) is agrees = absurd agrees
agrees_too whole part limit name (Err (causes.Slots n)) is agrees = absurd agrees
agrees_too whole part limit name (Err (causes.Shelf n)) is agrees = absurd agrees
agrees_too whole part limit name (Err causes.Sink) is agrees = absurd agrees

pub read_too : (whole part : Source) (limit : ℕ) (names all : List (List ℕ)) → IsPart whole part → AreRead part limit names all → AreRead whole limit names all
read_too whole part limit [] [] is read = tt
read_too whole part limit [] (bytes ∷ rest) is read = absurd read
read_too whole part limit (name ∷ names) [] is read = absurd read
read_too whole part limit (name ∷ names) (bytes ∷ rest) is read = (agrees_too whole part limit name (Ok bytes) is read.0, read_too whole part limit names rest is read.1)

pub fails_too : (whole part : Source) (limit : ℕ) (names : List (List ℕ)) (cause : Cause) → IsPart whole part → Fails part limit names cause → Fails whole limit names cause
fails_too whole part limit [] cause is fails = absurd fails
fails_too whole part limit (name ∷ names) cause is (inl agrees) = inl (agrees_too whole part limit name (Err cause) is agrees)
fails_too whole part limit (name ∷ names) cause is (inr (bytes, agrees, fails)) =
    inr (bytes, agrees_too whole part limit name (Ok bytes) is agrees, fails_too whole part limit names cause is fails)

pub reads_fail_too : (whole part : Source) (files inputs : List (List ℕ)) (cause : Cause) → IsPart whole part → ReadsFail part files inputs cause → ReadsFail whole files inputs cause
reads_fail_too whole part files inputs cause is (inl fails) = inl (fails_too whole part 4194304 files cause is fails)
reads_fail_too whole part files inputs cause is (inr (all, read, fails)) = inr (all, read_too whole part 4194304 files all is read, fails_too whole part 1048576 inputs cause is fails)

-- ---- name by name

pub read_none : (s : Source) (limit : ℕ) → AreRead s limit [] []
read_none s limit = tt

read_next : (s : Source) (limit : ℕ) (names all : List (List ℕ)) (i : ℕ) (bytes d : List ℕ) → i < length names → AreRead s limit (take i names) all →
    Agrees s limit (get_or names i d) (Ok bytes) → AreRead s limit (take (suc i) names) (all ++ bytes ∷ [])
read_next s limit [] all i bytes d within read agrees = absurd (omega (arith, within))
read_next s limit (name ∷ names) [] zero bytes d within read agrees = (agrees, tt)
read_next s limit (name ∷ names) (first ∷ all) zero bytes d within read agrees = absurd read
read_next s limit (name ∷ names) [] (suc i) bytes d within read agrees = absurd read
read_next s limit (name ∷ names) (first ∷ all) (suc i) bytes d within read agrees =
    let next : i < length names = omega (arith, within) in
    (read.0, read_next s limit names all i bytes d next read.1 agrees)

pub read_more : (s : Source) (limit : ℕ) (names all : List (List ℕ)) (i : ℕ) (bytes d : List ℕ) → i < length names → AreRead s limit (take i names) all →
    Agrees s limit (get_or names i d) (Ok bytes) → AreRead s limit (take (i + 1) names) (all ++ bytes ∷ [])
read_more s limit names all i bytes d within read agrees =
    let one : suc i ≡ i + 1 = omega arith in
    subst (λ n. AreRead s limit (take n names) (all ++ bytes ∷ [])) one (read_next s limit names all i bytes d within read agrees)

pub fails_at : (s : Source) (limit : ℕ) (names all : List (List ℕ)) (i : ℕ) (cause : Cause) (d : List ℕ) → i < length names → AreRead s limit (take i names) all →
    Agrees s limit (get_or names i d) (Err cause) → Fails s limit names cause
fails_at s limit [] all i cause d within read agrees = absurd (omega (arith, within))
fails_at s limit (name ∷ names) all zero cause d within read agrees = inl agrees
fails_at s limit (name ∷ names) [] (suc i) cause d within read agrees = absurd read
fails_at s limit (name ∷ names) (first ∷ all) (suc i) cause d within read agrees =
    let next : i < length names = omega (arith, within) in
    inr (first, read.0, fails_at s limit names all i cause d next read.1 agrees)

-- there are as many contents as names
pub read_count : (s : Source) (limit : ℕ) (names all : List (List ℕ)) → AreRead s limit names all → length names ≡ length all
read_count s limit [] [] read = refl
read_count s limit [] (bytes ∷ rest) read = absurd read
read_count s limit (name ∷ names) [] read = absurd read
read_count s limit (name ∷ names) (bytes ∷ rest) read =
    let more : length names ≡ length rest = read_count s limit names rest read.1 in
    omega (arith, more)
