-- Pieces written one after another.
use Rattle.std.proofs.Common.{◌≡◌, ℕ, zero, suc, ◌+◌, ◌<◌, ◌≤◌, min, List, [], ◌∷◌, ◌++◌, length, take, drop, get_or, Option, Some, None, Result, Ok, Err, OnErr, refl, sym, ◌-◌, ◌∙◌, ap, arith, append_assoc, length-drop}
use Rattle.std.specs.List.{flat_map}
use Rattle.std.proofs.lemmas.List.{take_all, take_min, append-nil, take-append-le}
use Rattle.std.proofs.Math.Seq.{take-add, take-append-add}
use Rattle.outside.specs.Sink.{with_bytes}

pub with_more : (held : Option (List ℕ)) (a b : List ℕ) → with_bytes (with_bytes held a) b ≡ with_bytes held (a ++ b)
with_more None a b = refl
with_more (Some x) a b = ap Some (append_assoc x a b)

pub nothing_more : (held : Option (List ℕ)) → held ≡ with_bytes held []
nothing_more None = refl
nothing_more (Some bytes) = ap Some (sym (append-nil bytes))

-- n more bytes of a text
pub written_more : (start before after : Option (List ℕ)) (text : List ℕ) (sent n : ℕ) → before ≡ with_bytes start (take sent text) →
    after ≡ with_bytes before (take n (drop sent text)) → after ≡ with_bytes start (take (sent + n) text)
written_more start before after text sent n so_far step =
    step ∙ ap (λ held. with_bytes held (take n (drop sent text))) so_far ∙ with_more start (take sent text) (take n (drop sent text))
    ∙ ap (λ bytes. with_bytes start bytes) (sym (take-add sent n text))

-- the rest of a text as a slice has it
pub rest_is : (text : List ℕ) (sent : ℕ) → take (length text - sent) (drop sent text) ≡ drop sent text
rest_is text sent = take_all (length text - sent) (drop sent text) (omega (arith, length-drop sent text))

-- the pieces of a text up to the next one
pieces_next : {X : Type 0} (f : X → List ℕ) (xs : List X) (i : ℕ) (d : X) → i < length xs →
    flat_map f (take (suc i) xs) ≡ flat_map f (take i xs) ++ f (get_or xs i d)
pieces_next f [] i d within = absurd (omega (arith, within))
pieces_next f (x ∷ xs) zero d within = append-nil (f x)
pieces_next f (x ∷ xs) (suc i) d within =
    let next : i < length xs = omega (arith, within) in
    ap (λ rest. f x ++ rest) (pieces_next f xs i d next) ∙ sym (append_assoc (f x) (flat_map f (take i xs)) (f (get_or xs i d)))

one_more : (i : ℕ) → i + 1 ≡ suc i
one_more i = omega arith

pub pieces_more : {X : Type 0} (f : X → List ℕ) (xs : List X) (i : ℕ) (d : X) → i < length xs →
    flat_map f (take (i + 1) xs) ≡ flat_map f (take i xs) ++ f (get_or xs i d)
pieces_more f xs i d within = ap (λ n. flat_map f (take n xs)) (one_more i) ∙ pieces_next f xs i d within

-- the whole of a text, at one of its pieces
pieces_at : {X : Type 0} (f : X → List ℕ) (xs : List X) (i : ℕ) (d : X) → i < length xs →
    (rest : List X) × (flat_map f xs ≡ flat_map f (take i xs) ++ (f (get_or xs i d) ++ flat_map f rest))
pieces_at f [] i d within = absurd (omega (arith, within))
pieces_at f (x ∷ xs) zero d within = (xs, refl)
pieces_at f (x ∷ xs) (suc i) d within =
    let next : i < length xs = omega (arith, within) in
    let (rest, at) = pieces_at f xs i d next in
    (rest, ap (λ t. f x ++ t) at ∙ sym (append_assoc (f x) (flat_map f (take i xs)) (f (get_or xs i d) ++ flat_map f rest)))

-- a front of a piece, behind what is written, is a front of the whole
front_behind : (done piece rest : List ℕ) (n : ℕ) → (m : ℕ) × (take m (done ++ (piece ++ rest)) ≡ done ++ take n piece)
front_behind done piece rest n =
    let short : min n (length piece) ≤ length piece = omega arith in (
      length done + min n (length piece),
      take-append-add done (piece ++ rest) (min n (length piece)) ∙ ap (λ t. done ++ t) (take-append-le (min n (length piece)) piece rest short ∙ take_min n piece),
    )

pub front_at : {X : Type 0} (f : X → List ℕ) (xs : List X) (i : ℕ) (d : X) (start before after : Option (List ℕ)) → i < length xs →
    before ≡ with_bytes start (flat_map f (take i xs)) → (n : ℕ) × (after ≡ with_bytes before (take n (f (get_or xs i d)))) →
    (m : ℕ) × (after ≡ with_bytes start (take m (flat_map f xs)))
front_at f xs i d start before after within so_far (n, step) =
    let (rest, whole) = pieces_at f xs i d within in
    let (m, front) = front_behind (flat_map f (take i xs)) (f (get_or xs i d)) (flat_map f rest) n in (
      m,
      step ∙ ap (λ held. with_bytes held (take n (f (get_or xs i d)))) so_far ∙ with_more start (flat_map f (take i xs)) (take n (f (get_or xs i d)))
          ∙ ap (λ bytes. with_bytes start bytes) (sym front ∙ ap (take m) (sym whole)),
    )

-- one more piece is written
pub written_piece : {X : Type 0} (f : X → List ℕ) (xs : List X) (i : ℕ) (d : X) (start before after : Option (List ℕ)) → i < length xs →
    before ≡ with_bytes start (flat_map f (take i xs)) → after ≡ with_bytes before (f (get_or xs i d)) → after ≡ with_bytes start (flat_map f (take (i + 1) xs))
written_piece f xs i d start before after within so_far step =
    step ∙ ap (λ held. with_bytes held (f (get_or xs i d))) so_far ∙ with_more start (flat_map f (take i xs)) (f (get_or xs i d))
    ∙ ap (λ bytes. with_bytes start bytes) (sym (pieces_more f xs i d within))

-- what is true where a call failed
pub on_err : {A E P : Type 0} (r : Result A E) → P → OnErr r P
on_err (Ok a) p = tt
on_err (Err e) p = p
