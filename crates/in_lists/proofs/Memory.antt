-- The memory of a block: how a `&` to it is made, and how one place is taken out and put back. Assumes `Logic`.
use Rattle.std.proofs.Common.{◌≡◌, ℕ, zero, suc, ◌+◌, ◌*◌, ◌^◌, ◌<◌, ◌≤◌, List, [], ◌∷◌, ◌++◌, length, refl, sym, ap, ◌∙◌, get_or, arith}
use seplogic.Ra.Ura.{Ura}
use prog.Capped.{capped_is}
use prog.Memory.{size, align, capped}
use prog.RawLaws.{size-raw, align-raw}
use mir.Syntax.{ty_array}
use mir.Val.{Val, vstruct, vcons, vnil, of_list}
use borrow.Table.OneValue.{part_out}
use base.Fraction.{full_share}
use base.Fml.{Lft, fat, froom}
use base.Logic.{ent, emp, sep, wand, apply∗}
use types.Logic.{Logic, sem}
use types.Kit.{‵, raw, ◌⊛◌, some, ◌$◌, ◌∵◌, !, qed, by, move, keep, drop, use1, use2, pick, split, fsplit, rewrite, frame, assume, done}
use denote.Copied.{Struct-Copied}
use denote.Laws.{Is}
use denote.Memory.{shared_of, part_at}
use denote.Opens.{Opens}
use denote.RattleType.{RattleType}
use denote.RawPtr.{Ptr, ptr_val}
use denote.Shadow.{makes_shadow}
use denote.Shares.{Shares-less}
use denote.Sharing.{ShrLaws}
use denote.SharingLaws.{nothing_shr_laws, beside_shr_laws}
use denote.Struct.Laws.{RawPtr-copy}
use denote.Struct.Lending.{Lends, Lends-both, Lends-nothing}
use denote.Struct.Owning.{shape}
use denote.Struct.Struct.{Struct}
use Rattle.core.specs.declared.alloc.Allocator.{Ghosts}
use Rattle.in_lists.specs.Block.{laid, shown, node_type, node_size, block_type, put_at, room_after}
use Rattle.in_lists.specs.declared.node.Node.{Node}
use Rattle.in_lists.specs.contracts.node.Node.{the_row}
use Rattle.in_lists.specs.contracts.block.Block.{the_type}
use Rattle.in_lists.specs.contracts.block.Claim.{the_type as claim_type}
use Rattle.in_lists.proofs.node.Node.TheLaws.{the_row_laws, the_within}

-- ---- the one field of a `Block`
abbrev pub Start : RattleType
Start = Struct (shape the_type)

abbrev pub start_val : Ptr → Val
start_val p = vstruct (vcons (ptr_val p) vnil)

pub start_told : (p : Ptr) (vs : List Val) → Is Start (p, tt) vs → vs ≡ start_val p ∷ []
start_told p vs told = told.1.0 ∙ ap (λ (fields : List Val). vstruct (of_list (fields ++ [])) ∷ []) told.1.1.0

pub start_opens : {M : Type 1} {𝓤 : Ura M} (𝓛 : Logic 𝓤) → Opens 𝓛 Start
start_opens {M} {𝓤 = 𝓤} 𝓛 = (Struct-Copied 𝓛 (shape the_type) (refl, tt) (RawPtr-copy.copied M 𝓤 𝓛, tt)).opens

pub start_made : {M : Type 1} {𝓤 : Ura M} (𝓛 : Logic 𝓤) (p : Ptr) → ent 𝓤 (emp 𝓤) (sem 𝓛 (Start.own_val (p, tt) (start_val p ∷ [])))
start_made 𝓛 p = makes_shadow 𝓛 (Start.own_val (p, tt) (start_val p ∷ [])) (λ _. (tt, (tt, tt))) ((ptr_val p ∷ [], tt), (refl, (refl, tt)))

-- ---- a `&` to a block
pub shown_laws : (b o : ℕ) (ns : List Node) → ShrLaws (shown b o ns)
shown_laws b o [] = nothing_shr_laws
shown_laws b o (n ∷ ns) =
    let rest = o + node_size in
    beside_shr_laws (shared_of the_row n b o) (shown b rest ns) (the_row_laws.shr_laws n b o) (shown_laws b rest ns)

module _ {M : Type 1} {𝓤 : Ura M} (𝓛 : Logic 𝓤) (b : ℕ) where
  pub laid_lends : (l : Lft) (o : ℕ) (ns : List Node) (more : ℕ) → Lends 𝓛 (laid b o ns more) (shown b o ns) l
  laid_lends l o [] more = Lends-nothing 𝓛 (laid b o [] more) l
  laid_lends l o (n ∷ ns) more =
      let rest = o + node_size in
      Lends-both 𝓛 (part_at the_row full_share n b o) (laid b rest ns more) (shared_of the_row n b o) (shown b rest ns) l
      (λ κ ts. Shares-less 𝓛 the_row the_row.lives l (the_within l) (the_row_laws.shares 𝓛) n κ ts b o) (laid_lends l rest ns more)

  -- the node in place i, which begins at the offset `spot`
  pub shown_at : (κ : Lft) (o : ℕ) (ns : List Node) (i spot : ℕ) (d : Node) → i < length ns → spot ≡ i * node_size + o
      → ent 𝓤 (sem 𝓛 (shown b o ns κ)) (sem 𝓛 (shared_of the_row (get_or ns i d) b spot κ))
  shown_at κ o [] i spot d within place = absurd (omega arith)
  shown_at κ o (n ∷ ns) zero spot d within place =
      let here : o ≡ spot = omega arith in
      qed 𝓛 (‵ (shown b o (n ∷ ns) κ) ∷ []) ∵ fsplit ! $ keep ! (0 ∷ []) $
      rewrite ! 0 (λ (k : ℕ). ‵ (shared_of the_row n b k κ)) here refl $ done !
  shown_at κ o (n ∷ ns) (suc i) spot d within place =
      qed 𝓛 (‵ (shown b o (n ∷ ns) κ) ∷ []) ∵ fsplit ! $ drop ! $
      by ! (shown_at κ (o + node_size) ns i spot d (omega arith) (omega arith))

-- ---- a node is written
pub put_counts : (ns : List Node) (i : ℕ) (n : Node) (more : ℕ) → i ≤ length ns → i < length ns + more → length (put_at ns i n) + room_after ns i more ≡ length ns + more
put_counts [] i n zero le fits = absurd (omega arith)
put_counts [] i n (suc more) le fits = omega arith
put_counts (m ∷ ms) zero n more le fits = refl
put_counts (m ∷ ms) (suc i) n more le fits = omega (arith, put_counts ms i n more (omega arith) (omega arith))

module _ {M : Type 1} {𝓤 : Ura M} (𝓛 : Logic 𝓤) (b : ℕ) where
  open 𝓛 use {H}

  -- a place with a node in it is room too
  emptied : (m : Node) (o : ℕ) → ent 𝓤 (sem 𝓛 (part_at the_row full_share m b o)) (H.room node_type b o)
  emptied m o = qed 𝓛 (‵ (part_at the_row full_share m b o) ∷ []) ∵
      use1 𝓛 (some (λ (v : Val). ‵ (fat full_share node_type b o v) ⊛ ‵ (the_row.own_val m (v ∷ [])))) (part_out 𝓛 the_row refl full_share m b o) $
      pick ! (λ v. split ! $ keep ! (0 ∷ []) $ by ! (𝓛.laws.at_room node_type b o v))

  -- the place i is room, and with a node in it the block is whole again
  pub place_out : (n : Node) (o : ℕ) (ns : List Node) (i spot more : ℕ) → i ≤ length ns → i < length ns + more → spot ≡ i * node_size + o
      → ent 𝓤 (sem 𝓛 (laid b o ns more)) (sep 𝓤 (H.room node_type b spot) (wand 𝓤 (sem 𝓛 (part_at the_row full_share n b spot)) (sem 𝓛 (laid b o (put_at ns i n) (room_after ns i more)))))
  place_out n o [] i spot zero le fits place = absurd (omega arith)
  place_out n o [] i spot (suc more) le fits place =
      let here : o ≡ spot = omega arith in
      qed 𝓛 (‵ (laid b o [] (suc more)) ∷ []) ∵
      use1 𝓛 (‵ (froom node_type b o) ⊛ ‵ (laid b (o + node_size) [] more)) (𝓛.laws.room_uncons node_type more b o) $ split ! $
      rewrite ! 0 (λ (k : ℕ). ‵ (froom node_type b k)) here refl $ frame ! $ assume ! (‵ (part_at the_row full_share n b spot)) $
      rewrite ! 0 (λ (k : ℕ). ‵ (part_at the_row full_share n b k)) (sym here) refl $ done !
  place_out n o (m ∷ ms) zero spot more le fits place =
      let here : o ≡ spot = omega arith in
      qed 𝓛 (‵ (laid b o (m ∷ ms) more) ∷ []) ∵ fsplit ! $
      use1 𝓛 (‵ (froom node_type b o)) (emptied m o) $ rewrite ! 0 (λ (k : ℕ). ‵ (froom node_type b k)) here refl $ frame ! $
      assume ! (‵ (part_at the_row full_share n b spot)) $ rewrite ! 0 (λ (k : ℕ). ‵ (part_at the_row full_share n b k)) (sym here) refl $ done !
  place_out n o (m ∷ ms) (suc i) spot more le fits place =
      let P = part_at the_row full_share n b spot in let Rest = laid b (o + node_size) (put_at ms i n) (room_after ms i more) in
      qed 𝓛 (‵ (laid b o (m ∷ ms) more) ∷ []) ∵ fsplit ! $ move ! (1 ∷ []) $
      use1 𝓛 (‵ (froom node_type b spot) ⊛ raw (wand 𝓤 (sem 𝓛 P) (sem 𝓛 Rest))) (place_out n (o + node_size) ms i spot more (omega arith) (omega arith) (omega arith)) $
      split ! $ frame ! $ assume ! (‵ P) $ use2 𝓛 (‵ Rest) (apply∗ 𝓤 (sem 𝓛 P) (sem 𝓛 Rest)) $ move ! (1 ∷ 0 ∷ []) $ done !

  -- ---- a block as the allocator has it: the places of the nodes are room, and what is behind them is let go
  pub all_room : (o : ℕ) (ns : List Node) (more : ℕ) → ent 𝓤 (sem 𝓛 (laid b o ns more)) (H.room (ty_array node_type (length ns)) b o)
  all_room o [] more = qed 𝓛 (‵ (laid b o [] more) ∷ []) ∵ drop ! $ by ! (𝓛.laws.room_nil node_type b o)
  all_room o (n ∷ ns) more =
      qed 𝓛 (‵ (laid b o (n ∷ ns) more) ∷ []) ∵ fsplit ! $ use1 𝓛 (‵ (froom node_type b o)) (emptied n o) $ move ! (1 ∷ []) $
      use1 𝓛 (‵ (froom (ty_array node_type (length ns)) b (o + node_size))) (all_room (o + node_size) ns more) $ move ! (1 ∷ 0 ∷ []) $
      by ! (𝓛.laws.room_cons node_type (length ns) b o)

pub block_bytes : (len : ℕ) → len * node_size < 2 ^ 64 → capped (size (block_type len)) ≡ len * node_size
block_bytes len fits = ap capped (size-raw (ty_array node_type len)) ∙ capped_is (len * node_size) fits

pub block_aligned : (len : ℕ) → capped (align (block_type len)) ≡ 8
block_aligned len = ap capped (align-raw (ty_array node_type len))

-- ---- the one field of a `Claim`, which is of no bytes
abbrev pub claim_val : Val
claim_val = vstruct (vcons (vstruct vnil) vnil)

module _ (A : RattleType) (g : Ghosts A.Denot) where
  abbrev pub Handle : RattleType
  Handle = Struct (shape (claim_type A g))

  pub handle_told : (vs : List Val) → Is Handle (tt, tt) vs → vs ≡ claim_val ∷ []
  handle_told vs told = told.1.0 ∙ ap (λ (fields : List Val). vstruct (of_list (fields ++ [])) ∷ []) told.1.1.0.1.0

  pub handle_made : {M : Type 1} {𝓤 : Ura M} (𝓛 : Logic 𝓤) → ent 𝓤 (emp 𝓤) (sem 𝓛 (Handle.own_val (tt, tt) (claim_val ∷ [])))
  handle_made 𝓛 = makes_shadow 𝓛 (Handle.own_val (tt, tt) (claim_val ∷ [])) (λ _. (tt, ((λ _. (tt, tt)), tt))) ((vstruct vnil ∷ [], tt), (refl, ((tt, (refl, tt)), tt)))
