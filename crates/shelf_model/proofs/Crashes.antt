-- The image with the first writes since the sync.
use Rattle.std.proofs.Common.{◌≡◌, ⊎_elim, ℕ, ◌+◌, ◌<◌, ◌≤◌, min, nat_lt, Bool, true, false, if◌then◌else◌, ◌&&◌, List, [], ◌∷◌, ◌++◌, length, take, drop, map, refl, ap, sym, ◌∙◌, subst, arith, length-append, lt-ltb, le-ltb}
use Rattle.std.proofs.lemmas.Bool.{cases_lt}
use Rattle.std.proofs.lemmas.List.{take-append-le, append-nil, take_all, drop_all}
use Rattle.std.proofs.Math.Seq.{take-nil}
use Rattle.std.proofs.lemmas.Slice.Eq.{bytes_eq-Decides}
use Rattle.std.specs.Str.{bytes_eq}
use Rattle.shelf_model.specs.declared.shelf.Area.{Area}
use Rattle.shelf_model.specs.declared.shelf.Area.TheVariants.{A, B}
use Rattle.shelf_model.specs.declared.memory.Call.{Call}
use Rattle.shelf_model.specs.declared.memory.Action.{Action}
use Rattle.shelf_model.specs.declared.memory.Action.TheVariants.{Put, Write, Tried, Sync}
use Rattle.shelf_model.specs.Shelf.{Leaves, written, Torn}
use Rattle.shelf_model.specs.Calls.{is_at, same_area, actions_on, content_from, content_of, left_after, left_from, left_of}
use Rattle.shelf_model.specs.Disk.{Disk, settled, disk_after, disk_from}
use Rattle.shelf_model.specs.Crash.{Piece, pieces_from, all_written, crash_of}
use Rattle.shelf_model.proofs.Writes.{written_is_torn}
use Rattle.shelf_model.proofs.Moments.{torn_itself}
use Rattle.shelf_model.proofs.Records.{images_of, take_whole}

-- the image as it is found call by call: what a read gives, the image so far, and how many writes that has
abbrev pub run_from : ℕ → List Action → List ℕ → List ℕ → ℕ → List ℕ
run_from whole [] all left count = left
run_from whole (Put bytes ∷ xs) all left count = run_from whole xs bytes bytes 0
run_from whole (Write at bytes ∷ xs) all left count = if nat_lt count whole then run_from whole xs (written at bytes all) (written at bytes left) (count + 1) else run_from whole xs (written at bytes all) left count
run_from whole (Tried at len ∷ xs) all left count = run_from whole xs all left count
run_from whole (Sync ∷ xs) all left count = run_from whole xs all all 0

abbrev piece : ℕ → List ℕ → Piece
piece at bytes = record { at = at; bytes = bytes }

-- an image so far
abbrev so_far : ℕ → List Piece → List ℕ → List ℕ
so_far whole ps synced = all_written (take whole ps) synced

all_written-last : (ps : List Piece) (p : Piece) (old : List ℕ) → all_written (ps ++ p ∷ []) old ≡ written p.at p.bytes (all_written ps old)
all_written-last [] p old = refl
all_written-last (q ∷ ps) p old = all_written-last ps p (written q.at q.bytes old)

none_so_far : (whole : ℕ) (synced : List ℕ) → so_far whole [] synced ≡ synced
none_so_far whole synced = ap (λ ps. all_written ps synced) (take-nil whole)

-- one write more, where it is among the first, and where it isn't
one_more_so_far : (whole : ℕ) (ps : List Piece) (at : ℕ) (bytes synced : List ℕ) → length ps < whole → so_far whole (ps ++ piece at bytes ∷ []) synced ≡ written at bytes (so_far whole ps synced)
one_more_so_far whole ps at bytes synced low =
    ap (λ qs. all_written qs synced) (take_all whole (ps ++ piece at bytes ∷ []) (omega (arith, low, length-append ps (piece at bytes ∷ []))))
    ∙ (all_written-last ps (piece at bytes) synced ∙ ap (λ qs. written at bytes (all_written qs synced)) (sym (take_all whole ps (omega (arith, low)))))

no_more_so_far : (whole : ℕ) (ps : List Piece) (at : ℕ) (bytes synced : List ℕ) → whole ≤ length ps → so_far whole (ps ++ piece at bytes ∷ []) synced ≡ so_far whole ps synced
no_more_so_far whole ps at bytes synced high = ap (λ qs. all_written qs synced) (take-append-le whole ps (piece at bytes ∷ []) high)

-- it is an image
write_so_far : (whole : ℕ) (ps : List Piece) (at : ℕ) (bytes synced : List ℕ) (P : List ℕ → Type 0) → P (so_far whole ps synced)
    → (d : List ℕ) × P d × Torn at (length bytes) d (so_far whole (ps ++ piece at bytes ∷ []) synced)
write_so_far whole ps at bytes synced P p =
    let old = so_far whole ps synced in
    ⊎_elim
    (λ low. (old, p, subst (λ z. Torn at (length bytes) old z) (sym (one_more_so_far whole ps at bytes synced low)) (written_is_torn at bytes old)))
    (λ high. (old, p, subst (λ z. Torn at (length bytes) old z) (sym (no_more_so_far whole ps at bytes synced high)) (torn_itself at (length bytes) old)))
    (cases_lt (length ps) whole)

image_from : (whole : ℕ) (xs : List Action) (ps : List Piece) (k : List ℕ) (disk : Disk) (P : List ℕ → Type 0) → P (so_far whole ps disk.synced)
    → left_from xs k P (so_far whole (pieces_from xs ps) (disk_from xs k disk).synced)
image_from whole [] ps k disk P p = p
image_from whole (Put bytes ∷ xs) ps k disk P p = image_from whole xs [] bytes (settled bytes) (λ c. c ≡ bytes) (none_so_far whole bytes)
image_from whole (Write at bytes ∷ xs) ps k disk P p =
    image_from whole xs (ps ++ piece at bytes ∷ []) (written at bytes k) (disk_after (Write at bytes) k disk) (left_after (Write at bytes) k P) (write_so_far whole ps at bytes disk.synced P p)
image_from whole (Tried at len ∷ xs) ps k disk P p =
    image_from whole xs ps k (disk_after (Tried at len) k disk) (left_after (Tried at len) k P) (so_far whole ps disk.synced, p, torn_itself at len (so_far whole ps disk.synced))
image_from whole (Sync ∷ xs) ps k disk P p = image_from whole xs [] k (settled k) (λ c. c ≡ k) (none_so_far whole k)

pub crash_is_left : (whole : ℕ) (calls : List Call) (n : List ℕ) (b : Area) → left_of calls n b (crash_of whole calls n b)
crash_is_left whole calls n b = image_from whole (actions_on calls n b) [] [] (settled []) (λ c. c ≡ []) (none_so_far whole [])

pub crash_is_image : (whole : ℕ) (calls : List Call) (n : List ℕ) (b : Area) → images_of calls (length calls) n b (crash_of whole calls n b)
crash_is_image whole calls n b = subst (λ (ys : List Call). left_of ys n b (crash_of whole calls n b)) (sym (take_whole calls)) (crash_is_left whole calls n b)

-- one write more, call by call
run_write : (whole : ℕ) (ps : List Piece) (at : ℕ) (bytes synced k : List ℕ) (xs : List Action) (R : List ℕ)
    → run_from whole xs (written at bytes k) (so_far whole (ps ++ piece at bytes ∷ []) synced) (min (length (ps ++ piece at bytes ∷ [])) whole) ≡ R
    → run_from whole (Write at bytes ∷ xs) k (so_far whole ps synced) (min (length ps) whole) ≡ R
run_write whole ps at bytes synced k xs R rest =
    let left = so_far whole ps synced in
    let count = min (length ps) whole in
    let new = written at bytes k in
    let choose : Bool → List ℕ = λ t. if t then run_from whole xs new (written at bytes left) (count + 1) else run_from whole xs new left count in
    ⊎_elim
    (λ low. ap choose (lt-ltb count whole (omega (arith, low)))
    ∙ (ap (λ z. run_from whole xs new z (count + 1)) (sym (one_more_so_far whole ps at bytes synced low))
    ∙ (ap (λ c. run_from whole xs new (so_far whole (ps ++ piece at bytes ∷ []) synced) c) (omega (arith, low, length-append ps (piece at bytes ∷ []))) ∙ rest)))
    (λ high. ap choose (le-ltb count whole (omega (arith, high)))
    ∙ (ap (λ z. run_from whole xs new z count) (sym (no_more_so_far whole ps at bytes synced high))
    ∙ (ap (λ c. run_from whole xs new (so_far whole (ps ++ piece at bytes ∷ []) synced) c) (omega (arith, high, length-append ps (piece at bytes ∷ []))) ∙ rest)))
    (cases_lt (length ps) whole)

none_counted : (whole : ℕ) → min (length {A = Piece} []) whole ≡ 0
none_counted whole = omega arith

-- an image that begins with these synced bytes
run_synced : (whole : ℕ) (xs : List Action) (bytes R : List ℕ) → run_from whole xs bytes (so_far whole [] bytes) (min (length {A = Piece} []) whole) ≡ R → run_from whole xs bytes bytes 0 ≡ R
run_synced whole xs bytes R rest =
    ap (λ z. run_from whole xs bytes z 0) (sym (none_so_far whole bytes)) ∙ (ap (λ c. run_from whole xs bytes (so_far whole [] bytes) c) (sym (none_counted whole)) ∙ rest)

run_is_right : (whole : ℕ) (xs : List Action) (ps : List Piece) (k : List ℕ) (disk : Disk)
    → run_from whole xs k (so_far whole ps disk.synced) (min (length ps) whole) ≡ so_far whole (pieces_from xs ps) (disk_from xs k disk).synced
run_is_right whole [] ps k disk = refl
run_is_right whole (Put bytes ∷ xs) ps k disk = run_synced whole xs bytes (so_far whole (pieces_from xs []) (disk_from xs bytes (settled bytes)).synced) (run_is_right whole xs [] bytes (settled bytes))
run_is_right whole (Write at bytes ∷ xs) ps k disk =
    run_write whole ps at bytes disk.synced k xs (so_far whole (pieces_from xs (ps ++ piece at bytes ∷ [])) (disk_from xs (written at bytes k) (disk_after (Write at bytes) k disk)).synced)
    (run_is_right whole xs (ps ++ piece at bytes ∷ []) (written at bytes k) (disk_after (Write at bytes) k disk))
run_is_right whole (Tried at len ∷ xs) ps k disk = run_is_right whole xs ps k (disk_after (Tried at len) k disk)
run_is_right whole (Sync ∷ xs) ps k disk = run_synced whole xs k (so_far whole (pieces_from xs []) (disk_from xs k (settled k)).synced) (run_is_right whole xs [] k (settled k))

pub run_of : (whole : ℕ) (calls : List Call) (n : List ℕ) (b : Area) → run_from whole (actions_on calls n b) [] [] 0 ≡ crash_of whole calls n b
run_of whole calls n b = run_synced whole (actions_on calls n b) [] (crash_of whole calls n b) (run_is_right whole (actions_on calls n b) [] [] (settled []))

-- A record in which each call puts what such an image has of its area.
abbrev pub put_of : ℕ → List Call → Call → Call
put_of whole all call = record { name = call.name; area = call.area; action = Put (crash_of whole all call.name call.area) }

abbrev pub puts_of : ℕ → List Call → List Call → List Call
puts_of whole all calls = map (put_of whole all) calls

same_areas : (b area : Area) → same_area b area ≡ true → b ≡ area
same_areas A A is = refl
same_areas B B is = refl
same_areas A B is = let clash : false ≡ true = is in cc
same_areas B A is = let clash : false ≡ true = is in cc

both_true : (s t : Bool) → (s && t) ≡ true → (s ≡ true) × (t ≡ true)
both_true true t is = (refl, is)
both_true false t is = let clash : false ≡ true = is in cc

put_here : (whole : ℕ) (all : List Call) (n : List ℕ) (b : Area) (call : Call) → is_at n b call ≡ true → crash_of whole all call.name call.area ≡ crash_of whole all n b
put_here whole all n b call is =
    let (name, area) = both_true (bytes_eq n call.name) (same_area b call.area) is in
    let name_is : n ≡ call.name = (bytes_eq-Decides n call.name).0 name in
    let area_is : b ≡ call.area = same_areas b call.area area in
    ap (λ z. crash_of whole all z call.area) (sym name_is) ∙ ap (λ z. crash_of whole all n z) (sym area_is)

-- bytes that all images have, after puts of them, where they had them before or there is a put
abbrev Settling : List Action → List ℕ → (List ℕ → Type 0) → List ℕ → Type 0
Settling xs k P new = (content_from xs k ≡ new) × ((c : List ℕ) → left_from xs k P c → c ≡ new)

settle_step : (here : Bool) (bytes new : List ℕ) (xs ys : List Action) (y : Action) → (here ≡ true → bytes ≡ new)
    → ((k : List ℕ) (P : List ℕ → Type 0) → (ys ≡ [] → (k ≡ new) × ((c : List ℕ) → P c → c ≡ new)) → Settling xs k P new)
    → (k : List ℕ) (P : List ℕ → Type 0) → ((if here then y ∷ ys else ys) ≡ [] → (k ≡ new) × ((c : List ℕ) → P c → c ≡ new)) → Settling (if here then Put bytes ∷ xs else xs) k P new
settle_step true bytes new xs ys y is rest k P before = rest bytes (λ c. c ≡ bytes) (λ none. (is refl, λ c h. h ∙ is refl))
settle_step false bytes new xs ys y is rest k P before = rest k P before

puts_settle : (whole : ℕ) (all calls : List Call) (n : List ℕ) (b : Area) (k : List ℕ) (P : List ℕ → Type 0)
    → (actions_on calls n b ≡ [] → (k ≡ crash_of whole all n b) × ((c : List ℕ) → P c → c ≡ crash_of whole all n b)) → Settling (actions_on (puts_of whole all calls) n b) k P (crash_of whole all n b)
puts_settle whole all [] n b k P before = before refl
puts_settle whole all (call ∷ calls) n b k P before =
    settle_step (is_at n b call) (crash_of whole all call.name call.area) (crash_of whole all n b) (actions_on (puts_of whole all calls) n b) (actions_on calls n b) call.action
    (put_here whole all n b call) (puts_settle whole all calls n b) k P before

-- once no call is left
pub puts_done : (whole i : ℕ) (all after : List Call) → after ++ puts_of whole all (drop i all) ≡ puts_of whole all all → length all ≤ i → after ≡ puts_of whole all all
puts_done whole i all after so past = sym (append-nil after) ∙ (sym (ap (λ (xs : List Call). after ++ puts_of whole all xs) (drop_all i all past)) ∙ so)

-- an area that no call was on
untouched : (whole : ℕ) (calls : List Call) (n : List ℕ) (b : Area) → actions_on calls n b ≡ [] → [] ≡ crash_of whole calls n b
untouched whole calls n b none =
    sym (ap (λ xs. so_far whole (pieces_from xs []) (disk_from xs [] (settled [])).synced) none ∙ none_so_far whole [])

settling : (whole : ℕ) (calls : List Call) (n : List ℕ) (b : Area) → Settling (actions_on (puts_of whole calls calls) n b) [] (λ c. c ≡ []) (crash_of whole calls n b)
settling whole calls n b = puts_settle whole calls calls n b [] (λ c. c ≡ []) (λ none. (untouched whole calls n b none, λ c is. is ∙ untouched whole calls n b none))

pub puts_tell : (whole : ℕ) (calls : List Call) (n : List ℕ) (b : Area) → content_of (puts_of whole calls calls) n b ≡ crash_of whole calls n b
puts_tell whole calls n b = (settling whole calls n b).0

pub puts_leave : (whole : ℕ) (calls : List Call) (n : List ℕ) (b : Area) → Leaves (images_of (puts_of whole calls calls)) (length (puts_of whole calls calls)) n b (crash_of whole calls n b)
puts_leave whole calls n b c h = (settling whole calls n b).1 c (subst (λ (ys : List Call). left_of ys n b c) (take_whole (puts_of whole calls calls)) h)
