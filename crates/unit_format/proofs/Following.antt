-- What a step answers, and what it answers where more bytes follow.
use Rattle.std.proofs.Common.{◌≡◌, ◌⊎◌, ℕ, zero, suc, ◌%◌, ◌≤◌, Bool, true, false, cond, leb, ltb, eqb, ◌||◌, List, [], ◌∷◌, ◌++◌, length, take, drop, Result, Ok, Err, refl, ap, arith, inl, inr}
use Rattle.std.specs.Int.{Width, w16, w32, byte_len}
use Rattle.std.proofs.lemmas.Bool.{leb-true, le-leb}
use Rattle.std.proofs.lemmas.List.{length-append, take-append-le}
use Rattle.cc_base.specs.Image.{Code}
use Rattle.rv_decode.specs.declared.ins.Isa.{Isa}
use Rattle.unit_set.specs.Slot.{slot_of}
use Rattle.unit_format.specs.declared.error.TextErr.{TextErr}
use Rattle.unit_format.specs.declared.error.TextErr.TheVariants as errors
use Rattle.unit_format.specs.declared.header.Version.{Version}
use Rattle.unit_format.specs.declared.header.Version.TheVariants.{One, Two}
use Rattle.unit_format.specs.Steps.{◌>>=◌, rule, known, byte_at, bytes_at, number_at, each}
use Rattle.unit_format.specs.Reading.{version_of, version_at, isa_of, isa_at, same_isa, slot_at, fits_segment, image_at, count_at, holds_words, place_at, kind_of, probe_at, probes_at, exit_of, exit_at, out_at, outs_at, fragment_at, turn_at, next_turn, fragments_at, text_at}

-- the later answer is the earlier one with more bytes behind it, or the earlier one lacked bytes
pub record Follows {A : Type 0} (more : List ℕ) (r later : Result (A × List ℕ) TextErr) : Type 0 where
  pub ok : (x : A × List ℕ) → r ≡ Ok x → later ≡ Ok (x.0, x.1 ++ more)
  pub err : (e : TextErr) → r ≡ Err e → (e ≡ errors.Short) ⊎ (later ≡ Err e)

abbrev good : {A : Type 0} → A × List ℕ → Result (A × List ℕ) TextErr
good x = Ok x

same_good : {A : Type 0} (x y : A × List ℕ) → good x ≡ good y → x ≡ y
same_good x y eq = cc

pub keeps : {A : Type 0} {more : List ℕ} (x : A) (rest : List ℕ) → Follows more (good (x, rest)) (good (x, rest ++ more))
keeps {A} {more} x rest = record {
  ok = λ y eq. ap (λ (z : A × List ℕ). good (z.0, z.1 ++ more)) (same_good (x, rest) y eq);
  err = λ e eq. absurd cc;
}

-- a step, and what is done with its value
pub go : {A B : Type 0} {more : List ℕ} (r later : Result (A × List ℕ) TextErr) (f : A × List ℕ → Result (B × List ℕ) TextErr) → Follows more r later
    → ((x : A × List ℕ) → Follows more (f x) (f (x.0, x.1 ++ more))) → Follows more (r >>= f) (later >>= f)
go (Ok x) later f h k = rw (h.ok x refl) (k x)
go (Err d) later f h k = record {
  ok = λ y eq. absurd cc;
  err = λ e eq. elim (h.err d refl) [ inl short ↦ inl (cc) | inr same ↦ inr (rw same eq) ];
}

-- a test that takes no bytes
pub test : {A B : Type 0} {more : List ℕ} (r : Result A TextErr) (f g : A → Result (B × List ℕ) TextErr) → ((x : A) → Follows more (f x) (g x)) → Follows more (r >>= f) (r >>= g)
test (Ok x) f g k = k x
test (Err d) f g k = record { ok = λ y eq. absurd cc; err = λ e eq. inr eq }

byte_follows : (bytes more : List ℕ) → Follows more (byte_at bytes) (byte_at (bytes ++ more))
unfolding byte_at
byte_follows [] more = record { ok = λ y eq. absurd cc; err = λ e eq. inl (cc) }
byte_follows (b ∷ bytes) more = keeps b bytes

drop_more : (n : ℕ) (xs more : List ℕ) → n ≤ length xs → drop n (xs ++ more) ≡ drop n xs ++ more
drop_more zero xs more le = refl
drop_more (suc n) [] more le = absurd (omega (arith, le))
drop_more (suc n) (x ∷ xs) more le = drop_more n xs more (omega (arith, le))

short_if : {A : Type 0} {more : List ℕ} (b : Bool) (x : A × List ℕ) (later : Result (A × List ℕ) TextErr) → (b ≡ true → Follows more (good x) later) → Follows more (cond b (good x) (Err errors.Short)) later
short_if true x later h = h refl
short_if false x later h = record { ok = λ y eq. absurd cc; err = λ e eq. inl (cc) }

bytes_follows : (n : ℕ) (bytes more : List ℕ) → Follows more (bytes_at n bytes) (bytes_at n (bytes ++ more))
unfolding bytes_at
bytes_follows n bytes more = short_if (leb n (length bytes)) (take n bytes, drop n bytes) _ (λ long.
    let le : n ≤ length bytes = leb-true _ _ long in
    let longer : leb n (length (bytes ++ more)) ≡ true = le-leb _ _ (omega (arith, length-append bytes more)) in
    rw (longer, take-append-le n bytes more le, drop_more n bytes more le) (keeps (take n bytes) (drop n bytes)))

number_follows : (w : Width) (bytes more : List ℕ) → Follows more (number_at w bytes) (number_at w (bytes ++ more))
unfolding number_at
number_follows w bytes more = go (bytes_at (byte_len w) bytes) _ _ (bytes_follows (byte_len w) bytes more) (λ x. keeps _ x.1)

count_follows : (v : Version) (bytes more : List ℕ) → Follows more (count_at v bytes) (count_at v (bytes ++ more))
unfolding count_at
count_follows One bytes more = byte_follows bytes more
count_follows Two bytes more = number_follows w16 bytes more

module _ {S A : Type 0} (step : S → List ℕ → Result (A × List ℕ) TextErr) (next : S → A → S) where
  each_follows : ((s : S) (bytes more : List ℕ) → Follows more (step s bytes) (step s (bytes ++ more))) → (n : ℕ) (s : S) (bytes more : List ℕ)
      → Follows more (each step next s n bytes) (each step next s n (bytes ++ more))
  unfolding each
  each_follows law zero s bytes more = keeps [] bytes
  each_follows law (suc n) s bytes more = go (step s bytes) _ _ (law s bytes more) (λ first.
      go (each step next (next s first.0) n first.1) _ _ (each_follows law n (next s first.0) first.1 more) (λ others. keeps _ others.1))

place_follows : (v : Version) (image : Code) (i least : ℕ) (bytes more : List ℕ) → Follows more (place_at v image i least bytes) (place_at v image i least (bytes ++ more))
unfolding place_at
place_follows v image i least bytes more = go (number_at w32 bytes) _ _ (number_follows w32 bytes more) (λ address.
    test (rule (leb least address.0) (errors.Order i)) _ _ (λ _.
    test (rule (eqb (address.0 % 4) 0) (errors.Field i)) _ _ (λ _.
    go (count_at v address.1) _ _ (count_follows v address.1 more) (λ words.
    test (rule (holds_words image address.0 words.0) (errors.Field i)) _ _ (λ _. keeps _ words.1)))))

probe_follows : (i words : ℕ) (bytes more : List ℕ) → Follows more (probe_at i words bytes) (probe_at i words (bytes ++ more))
unfolding probe_at
probe_follows i words bytes more = go (byte_at bytes) _ _ (byte_follows bytes more) (λ place.
    test (rule (ltb place.0 words) (errors.Field i)) _ _ (λ _.
    go (byte_at place.1) _ _ (byte_follows place.1 more) (λ code.
    test (known (kind_of code.0) (errors.Field i)) _ _ (λ kind. keeps _ code.1))))

probes_follows : (v : Version) (i words : ℕ) (bytes more : List ℕ) → Follows more (probes_at v i words bytes) (probes_at v i words (bytes ++ more))
unfolding probes_at
probes_follows v i words bytes more = go (count_at v bytes) _ _ (count_follows v bytes more) (λ n.
    test (rule (leb n.0 64) (errors.Field i)) _ _ (λ _.
    each_follows (λ (s : Unit {0}). probe_at i words) (λ s x. s) (λ s. probe_follows i words) n.0 tt n.1 more))

exit_follows : (i : ℕ) (bytes more : List ℕ) → Follows more (exit_at i bytes) (exit_at i (bytes ++ more))
unfolding exit_at
exit_follows i bytes more = go (byte_at bytes) _ _ (byte_follows bytes more) (λ kind.
    test (rule (ltb kind.0 4) (errors.Field i)) _ _ (λ _.
    go (number_at w32 kind.1) _ _ (number_follows w32 kind.1 more) (λ target.
    test (known (exit_of kind.0 target.0) (errors.Field i)) _ _ (λ exit. keeps _ target.1))))

out_follows : (i : ℕ) (bytes more : List ℕ) → Follows more (out_at i bytes) (out_at i (bytes ++ more))
unfolding out_at
out_follows i bytes more = go (exit_at i bytes) _ _ (exit_follows i bytes more) (λ exit.
    go (number_at w32 exit.1) _ _ (number_follows w32 exit.1 more) (λ link. keeps _ link.1))

outs_follows : (i : ℕ) (bytes more : List ℕ) → Follows more (outs_at i bytes) (outs_at i (bytes ++ more))
unfolding outs_at
outs_follows i bytes more = go (byte_at bytes) _ _ (byte_follows bytes more) (λ n.
    test (rule (eqb n.0 1 || eqb n.0 2) (errors.Field i)) _ _ (λ _.
    each_follows (λ (s : Unit {0}). out_at i) (λ s x. s) (λ s. out_follows i) n.0 tt n.1 more))

fragment_follows : (v : Version) (image : Code) (i least : ℕ) (bytes more : List ℕ) → Follows more (fragment_at v image i least bytes) (fragment_at v image i least (bytes ++ more))
unfolding fragment_at
fragment_follows v image i least bytes more = go (place_at v image i least bytes) _ _ (place_follows v image i least bytes more) (λ place.
    go (probes_at v i place.0.1 place.1) _ _ (probes_follows v i place.0.1 place.1 more) (λ probes.
    go (outs_at i probes.1) _ _ (outs_follows i probes.1 more) (λ outs. keeps _ outs.1)))

fragments_follows : (v : Version) (image : Code) (bytes more : List ℕ) → Follows more (fragments_at v image bytes) (fragments_at v image (bytes ++ more))
unfolding fragments_at
fragments_follows v image bytes more = go (number_at w32 bytes) _ _ (number_follows w32 bytes more) (λ n.
    test (rule (leb n.0 16384) errors.Count) _ _ (λ _.
    each_follows (turn_at v image) next_turn (λ t. fragment_follows v image t.0 t.1) n.0 (0, 0) n.1 more))

version_follows : (bytes more : List ℕ) → Follows more (version_at bytes) (version_at (bytes ++ more))
unfolding version_at
version_follows bytes more = go (number_at w32 bytes) _ _ (number_follows w32 bytes more) (λ magic.
    test (known (version_of magic.0) errors.Magic) _ _ (λ version. keeps _ magic.1))

isa_follows : (v : Version) (bytes more : List ℕ) → Follows more (isa_at v bytes) (isa_at v (bytes ++ more))
unfolding isa_at
isa_follows One bytes more = keeps _ bytes
isa_follows Two bytes more = go (byte_at bytes) _ _ (byte_follows bytes more) (λ code.
    test (known (isa_of code.0) errors.Isa) _ _ (λ isa. keeps _ code.1))

slot_follows : (isa : Isa) (bytes more : List ℕ) → Follows more (slot_at isa bytes) (slot_at isa (bytes ++ more))
unfolding slot_at
slot_follows isa bytes more = go (byte_at bytes) _ _ (byte_follows bytes more) (λ n.
    go (bytes_at n.0 n.1) _ _ (bytes_follows n.0 n.1 more) (λ name.
    test (known (slot_of name.0) errors.Name) _ _ (λ slot.
    test (rule (same_isa slot.isa isa) errors.Name) _ _ (λ _. keeps _ name.1))))

image_follows : (bytes more : List ℕ) → Follows more (image_at bytes) (image_at (bytes ++ more))
unfolding image_at
image_follows bytes more = go (number_at w32 bytes) _ _ (number_follows w32 bytes more) (λ start.
    go (number_at w32 start.1) _ _ (number_follows w32 start.1 more) (λ n.
    test (rule (fits_segment start.0 n.0) errors.Count) _ _ (λ _.
    go (bytes_at n.0 n.1) _ _ (bytes_follows n.0 n.1 more) (λ content. keeps _ content.1))))

pub text_follows : (bytes more : List ℕ) → Follows more (text_at bytes) (text_at (bytes ++ more))
unfolding text_at
text_follows bytes more = go (version_at bytes) _ _ (version_follows bytes more) (λ version.
    go (isa_at version.0 version.1) _ _ (isa_follows version.0 version.1 more) (λ isa.
    go (slot_at isa.0 isa.1) _ _ (slot_follows isa.0 isa.1 more) (λ slot.
    go (image_at slot.1) _ _ (image_follows slot.1 more) (λ image.
    go (fragments_at version.0 image.0 image.1) _ _ (fragments_follows version.0 image.0 image.1 more) (λ frags. keeps _ frags.1)))))
