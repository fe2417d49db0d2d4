-- Answers to reads, put together from what was read.
use Rattle.std.proofs.Common.{◌≡◌, ℕ, zero, suc, Bool, true, false, List, [], ◌∷◌, if◌then◌else◌, Ok, Err, Result, refl, sym, ◌∙◌, ap, subst, inl, inr}
use Rattle.std.specs.Str.{bytes_eq}
use Rattle.std.proofs.lemmas.Slice.Eq.{bytes_eq-Decides}
use Rattle.host_text.specs.declared.cause.Cause.{Cause}
use Rattle.host_text.specs.declared.cause.Cause.TheVariants as causes
use Rattle.host.specs.Outcome.{Manifest, File, Input, Answer, Source, Agrees, Answers, AllAgree, each}
use Rattle.host.specs.Reading.{AreRead, Fails}
use Rattle.host.proofs.Steps.{goes_on, stops}

are_same : (a b : List ℕ) → bytes_eq a b ≡ true → a ≡ b
are_same a b = (bytes_eq-Decides a b).0

same_bytes : (a : List ℕ) → bytes_eq a a ≡ true
same_bytes a = (bytes_eq-Decides a a).1 refl

-- the answer to one name. Memory runs out at all others
abbrev pub answer_at : List ℕ → Answer → List ℕ → Answer
answer_at name answer asked = if bytes_eq asked name then answer else Err causes.Memory

pub at_itself : (name : List ℕ) (answer : Answer) → answer_at name answer name ≡ answer
at_itself name answer = ap (λ b. if b then answer else Err causes.Memory) (same_bytes name)

agrees_if : (s : Source) (limit : ℕ) (name asked : List ℕ) (answer : Answer) (b : Bool) → (b ≡ true → asked ≡ name) → Agrees s limit name answer →
    Agrees s limit asked (if b then answer else Err causes.Memory)
agrees_if s limit name asked answer true same agrees = subst (λ n. Agrees s limit n answer) (sym (same refl)) agrees
agrees_if s limit name asked answer false same agrees = tt

pub agrees_at : (s : Source) (limit : ℕ) (name : List ℕ) (answer : Answer) → Agrees s limit name answer → (asked : List ℕ) → Agrees s limit asked (answer_at name answer asked)
agrees_at s limit name answer agrees asked = agrees_if s limit name asked answer (bytes_eq asked name) (are_same asked name) agrees

-- memory runs out at each name
abbrev pub nothing : ℕ → List ℕ → Answer
nothing i asked = Err causes.Memory

pub agrees_nothing : (s : Source) (limit : ℕ) (i : ℕ) (asked : List ℕ) → Agrees s limit asked (nothing i asked)
agrees_nothing s limit i asked = tt

-- one answer more in front of others
abbrev behind : List ℕ → Answer → (ℕ → List ℕ → Answer) → ℕ → List ℕ → Answer
behind name answer rest zero asked = answer_at name answer asked
behind name answer rest (suc i) asked = rest i asked

-- Answers to these names, one after the other, that agree with what the files tell and give this.
pub record Known (s : Source) (limit : ℕ) (names : List (List ℕ)) (result : Result (List (List ℕ)) Cause) : Type 0 where
  pub answers : ℕ → List ℕ → Answer
  pub agree : (i : ℕ) (asked : List ℕ) → Agrees s limit asked (answers i asked)
  pub gives : each answers names ≡ result

agrees_behind : (s : Source) (limit : ℕ) (name : List ℕ) (answer : Answer) (rest : ℕ → List ℕ → Answer) → Agrees s limit name answer →
    ((i : ℕ) (asked : List ℕ) → Agrees s limit asked (rest i asked)) → (i : ℕ) (asked : List ℕ) → Agrees s limit asked (behind name answer rest i asked)
agrees_behind s limit name answer rest agrees others zero asked = agrees_at s limit name answer agrees asked
agrees_behind s limit name answer rest agrees others (suc i) asked = others i asked

pub known_all : (s : Source) (limit : ℕ) (names all : List (List ℕ)) → AreRead s limit names all → Known s limit names (Ok all)
unfolding each
known_all s limit [] [] read = record { answers = nothing; agree = agrees_nothing s limit; gives = refl }
known_all s limit [] (bytes ∷ rest) read = absurd read
known_all s limit (name ∷ names) [] read = absurd read
known_all s limit (name ∷ names) (bytes ∷ rest) read =
    let others = known_all s limit names rest read.1 in
    record {
      answers = behind name (Ok bytes) others.answers;
      agree = agrees_behind s limit name (Ok bytes) others.answers read.0 others.agree;
      gives = goes_on (answer_at name (Ok bytes) name) _ bytes (at_itself name (Ok bytes)) ∙ goes_on (each others.answers names) _ rest others.gives;
    }

pub known_failure : (s : Source) (limit : ℕ) (names : List (List ℕ)) (cause : Cause) → Fails s limit names cause → Known s limit names (Err cause)
unfolding each
known_failure s limit [] cause fails = absurd fails
known_failure s limit (name ∷ names) cause (inl agrees) = record {
  answers = behind name (Err cause) nothing;
  agree = agrees_behind s limit name (Err cause) nothing agrees (agrees_nothing s limit);
  gives = stops (answer_at name (Err cause) name) _ cause (at_itself name (Err cause));
}
known_failure s limit (name ∷ names) cause (inr (bytes, agrees, fails)) =
    let others = known_failure s limit names cause fails in
    record {
      answers = behind name (Ok bytes) others.answers;
      agree = agrees_behind s limit name (Ok bytes) others.answers agrees others.agree;
      gives = goes_on (answer_at name (Ok bytes) name) _ bytes (at_itself name (Ok bytes)) ∙ stops (each others.answers names) _ cause others.gives;
    }

-- the answers to all reads, by what they are for
abbrev pub answers_by : (List ℕ → Answer) → (ℕ → List ℕ → Answer) → (ℕ → List ℕ → Answer) → Answers
answers_by text files inputs Manifest name = text name
answers_by text files inputs (File i) name = files i name
answers_by text files inputs (Input i) name = inputs i name

pub all_agree : (s : Source) (text : List ℕ → Answer) (files inputs : ℕ → List ℕ → Answer) → ((name : List ℕ) → Agrees s 1048576 name (text name)) →
    ((i : ℕ) (name : List ℕ) → Agrees s 4194304 name (files i name)) → ((i : ℕ) (name : List ℕ) → Agrees s 1048576 name (inputs i name)) →
    AllAgree s (answers_by text files inputs)
all_agree s text files inputs a b c Manifest name = a name
all_agree s text files inputs a b c (File i) name = b i name
all_agree s text files inputs a b c (Input i) name = c i name
