-- Counts that have some events more.
use Rattle.std.proofs.Common.{◌≡◌, ℕ, ◌+◌, ◌-◌, ◌<◌, ◌≤◌, Bool, true, false, cond, List, [], ◌∷◌, ◌++◌, length, Option, Some, None, unwrap_or, nat_eq, refl, sym, ◌∙◌, ap, subst, arith}
use Rattle.std.specs.Option.{option_to_list}
use Rattle.std.specs.FinMap as fin
use Rattle.rv_decode.specs.declared.ins.Ins.{Ins}
use Rattle.probe_tools.specs.declared.event.Event.{Event}
use Rattle.probe_tools.specs.declared.probe.ProbeKind.{ProbeKind}
use Rattle.probe_tools.specs.Rows.{Counts, count_at, key_of, with_more}
use Rattle.plain_machine.specs.declared.cpu.Cpu.{Cpu}
use Rattle.report.specs.Rows.{Rows}
use Rattle.probe_tools.proofs.Counting.{got_more}
use Rattle.engine.specs.Seeing.{counting, seen_by, seen_with, with_events}

pub counting-append : (xs ys : List Event) (counts : Counts) → counting (xs ++ ys) counts ≡ counting ys (counting xs counts)
counting-append [] ys counts = refl
counting-append (x ∷ xs) ys counts = counting-append xs ys (with_more (key_of x) 1 counts)

-- events behind those that were counted
pub events-counted : (xs ys : List Event) (old now new : Rows) → now ≡ with_events xs old → new ≡ with_events ys now → new ≡ with_events (xs ++ ys) old
events-counted xs ys old now new before behind =
    behind ∙ ap (with_events ys) before ∙ ap (λ counts. record old { counts = counts }) (sym (counting-append xs ys old.counts))

bound-by : (b : Bool) (n : ℕ) (o : Option ℕ) → unwrap_or (cond b (Some (unwrap_or o 0 + n)) o) 0 ≤ unwrap_or o 0 + n
bound-by true n o = omega arith
bound-by false n o = omega arith

count-more : (counts : Counts) (k n q : ℕ) → count_at (with_more k n counts) q ≤ count_at counts q + n
count-more counts k n q = subst (λ o. unwrap_or o 0 ≤ count_at counts q + n) (sym (got_more counts k n q)) (bound-by (nat_eq k q) n (fin.get counts q))

pub counting-bound : (es : List Event) (counts : Counts) (q : ℕ) → count_at (counting es counts) q ≤ count_at counts q + length es
counting-bound [] counts q = omega arith
counting-bound (e ∷ es) counts q =
    let rest : count_at (counting es (with_more (key_of e) 1 counts)) q ≤ count_at (with_more (key_of e) 1 counts) q + length es = counting-bound es (with_more (key_of e) 1 counts) q in
    let one : count_at (with_more (key_of e) 1 counts) q ≤ count_at counts q + 1 = count-more counts (key_of e) 1 q in
    omega arith

pub listed-few : (o : Option Event) → length (option_to_list o) ≤ 1
listed-few None = omega arith
listed-few (Some e) = omega arith

-- a word has one event at most
pub seen-few : (probe : Option ProbeKind) (cpu : Cpu) (i : Ins) → length (seen_with probe cpu i) ≤ 1
seen-few None cpu i = omega arith
seen-few (Some kind) cpu i = listed-few (seen_by kind cpu i)

pub small-more : (probe : Option ProbeKind) (cpu : Cpu) (i : Ins) (old new : Rows) (rest limit : ℕ) → new ≡ with_events (seen_with probe cpu i) old → 0 < rest →
    ((key : ℕ) → count_at old.counts key + rest < limit) → (key : ℕ) → count_at new.counts key + (rest - 1) < limit
small-more probe cpu i old new rest limit is some small key =
    let bound : count_at (counting (seen_with probe cpu i) old.counts) key ≤ count_at old.counts key + length (seen_with probe cpu i) = counting-bound (seen_with probe cpu i) old.counts key in
    let few : length (seen_with probe cpu i) ≤ 1 = seen-few probe cpu i in
    let before : count_at old.counts key + rest < limit = small key in
    let same : count_at new.counts key ≡ count_at (counting (seen_with probe cpu i) old.counts) key = ap (λ r. count_at r.counts key) is in
    omega arith
