-- A `&` to a block has a `&` to each of its nodes, and `get` hands that one on.
use Rattle.std.proofs.Common.{◌≡◌, ℕ, ◌*◌, ◌+◌, ◌^◌, ◌<◌, List, [], ◌∷◌, length, refl, sym, ap, ◌∙◌, w64, arith}
use Rattle.std.proofs.raw_atomic.Walks.{proved, leaves}
use Rattle.std.proofs.VecSteps.Shapes.{after}
use mir.Syntax.{named}
use mir.Val.{Val, vint, vptr}
use base.Logic.{SProp, emp}
use base.Fml.{Lft, ftrue, flft, fhide}
use contract.Monad.{fact, fact_i}
use contract.Running.{tables}
use types.Kit.{‵, raw, ◌⊛◌, at_ret, ◌$◌, ◌∵◌, !, qed, by, move, keep, use0, use1, split, join, fsplit, fjoin, feq_i, rewrite}
use types.Part.{whole, sub, look_in}
use types.Run.{enter, of_opd, lit, bin, addr, load, stop, fld, first, blocks, exec, returns}
use types.ByLocal.{alloc_all, pass_all, free_all, look_at, get, through, sets, sets_last, env}
use denote.Builtin.{usize, RefOf}
use denote.Exit.{yes}
use denote.Laws.{Is, shows}
use denote.Memory.{cell_at, hidden_shr}
use denote.Plain.{uint_vals, uint_Tells}
use denote.RattleType.{owns}
use denote.RawPtr.{Ptr, block_ptr, block_of, count_of}
use denote.Ref.{shr_vals, shr_Tells}
use denote.Signature.{plain, types_at}
use denote.Steps.{nothing, peeks, heard, looks, shuts}
use denote.Struct.Lending.{lent_out}
use denote.Triple.Walked.{Stays, walk_of, stay_dropped, Goes-dropped}
use Rattle.in_lists.specs.Block.{shown, node_size}
use Rattle.in_lists.specs.Nodes.{alone, node_at}
use Rattle.in_lists.specs.declared.node.Node.{Node}
use Rattle.in_lists.specs.declared.block.Block.{Block}
use Rattle.in_lists.specs.contracts.node.Node as node
use Rattle.in_lists.specs.contracts.block.Block as block
use Rattle.in_lists.proofs.Memory.{Start, start_val, start_told, start_opens, shown_at}
use Rattle.in_lists.specs.contracts.block.Block.get as f
use Rattle.in_lists.proofs.block.Block.get.Statement.{statement}
use Rattle.in_lists.proofs.block.Block.get.Code as code

abbrev stayed : Stays f.ended.signature.params f.ended.kept
stayed = (stay_dropped (RefOf (0 ∷ []) tt (plain (λ _. block.the_row)) (λ _. tt)) yes, (stay_dropped (plain (λ _. usize)) yes, tt))

pub get_spec : {M : Type 1} → statement M
get_spec 𝓤 𝓛 𝓜 𝓡 wired =
    let c = f.clauses 𝓛 𝓜.mem 𝓡.returns in let 𝓣 = tables 𝓤 𝓛.H 𝓜 𝓡 𝓡.env in
    proved 𝓛 f.ended stayed c 𝓜 𝓡
    (Goes-dropped 𝓛 1 (RefOf (0 ∷ []) tt (plain (λ _. block.the_row)) (λ _. tt)) yes (λ κs x f. refl), (Goes-dropped 𝓛 1 (plain (λ _. usize)) yes (λ κs x f. refl), tt))
    f.Key.name code.function (code.unfolded 𝓤 𝓛.H 𝓜 𝓡 wired)
    (λ κs. (shr_vals, (uint_vals w64, tt))) (λ κs. (shr_Tells (named 0) κs.0 block.the_row, (uint_Tells w64, tt))) (λ κs qs bounds a g are.
    let κ : Lft = κs.0 in let b = a.0.ref_ptr.0 in let o = a.0.ref_ptr.1 in let d : Block = a.0.now in let i : ℕ = a.1.0 in
    let p : Ptr = d.start in let ns : List Node = d.nodes in let pb = block_of p in let spot = i * node_size + count_of p in let n = node_at ns i in
    let y : (walk_of 𝓛 f.ended stayed c).Ghost = ((κs, qs, bounds, a, (vptr b o ∷ [], (vint w64 i ∷ [], tt))), g) in
    let Post : Val → SProp 𝓤 = (walk_of 𝓛 f.ended stayed c).post y in
    qed 𝓛 (((‵ (flft κ qs.0) ⊛ ‵ ftrue) ⊛ ‵ (owns (types_at f.signature.params κs) a y.0.4)) ∷ raw (fact 𝓤 (i < length ns)) ∷ []) ∵
    move ! (1 ∷ []) $ heard ! (i < length ns) (λ within. split ! $ split ! $ move ! (2 ∷ []) $ fsplit ! $ fsplit ! $ keep ! (1 ∷ 3 ∷ 4 ∷ []) $
    let few : length ns + d.more < 2 ^ 34 = d.small in let fits : i * 24 < 2 ^ 64 = omega arith in
    enter ! 𝓣.C 𝓣.Λ code.function (vptr b o ∷ vint w64 i ∷ []) Post $ alloc_all ! (λ l. pass_all ! refl ((tt, tt), ((tt, record { fits = are.1.0.1 }), tt)) $
    let Ev = env code.function.locals l in
    -- [the node there; the block's field; the token; the other locals]
    use1 𝓛 (‵ (hidden_shr Start κ (p, tt) b o) ⊛ ‵ (fhide (shown pb (count_of p) ns κ))) (lent_out 𝓛 block.struct block.the_codes block.the_heap block.the_lent κ d b o) $
    split ! $ move ! (1 ∷ []) $ use1 𝓛 (‵ (hidden_shr node.the_row κ n pb spot)) (shown_at 𝓛 pb κ (count_of p) ns i spot (alone i) within refl) $ move ! (1 ∷ 2 ∷ []) $
    looks ! tt Start (start_opens 𝓛) (p, tt) b o (λ q vs. move ! (1 ∷ []) $ peeks ! Start (Is Start) (shows 𝓛 Start) (p, tt) vs (λ told.
    let is : vs ≡ start_val (block_ptr pb (count_of p)) ∷ [] = start_told p vs told ∙ ap (λ (z : Ptr). start_val z ∷ []) d.placed in
    let Cell = λ (ws : List Val). ‵ (cell_at q Start.mir ws b o) in
    rewrite ! 1 Cell is refl $
    first ! $ blocks ! $
    sets ! (of_opd ! (load ! (through ! refl (fld ! refl (stop !))) (look_in ! 1 (sub ! 0 refl (whole !))))) refl (tt, tt) $
    sets ! (bin ! (get ! refl) (lit ! tt) (record { fits = fits })) refl (tt, record { fits = fits }) $
    sets ! (bin ! (get ! refl) (get ! refl) tt) refl (tt, tt) $
    sets_last ! (addr ! (through ! refl (stop !))) refl (tt, tt) $
    exec ! 𝓣.C 𝓣.Λ Ev (after 1 (code.function).body) (at_ret Ev Post) $ sets ! (of_opd ! (get ! refl)) refl (tt, tt) $
    rewrite ! 1 Cell (sym is) refl $ move ! (1 ∷ 0 ∷ 2 ∷ []) $ shuts ! tt Start q (p, tt) vs b o $
    -- [the token; the block's field; the node; no other token]
    move ! (0 ∷ 3 ∷ []) $ join ! $ move ! (2 ∷ []) $ feq_i ! (List Val) (vptr pb spot ∷ []) (vptr pb spot ∷ []) refl $ fjoin ! $
    use0 𝓛 (raw (fact 𝓤 (n ≡ n))) (fact_i 𝓤 (n ≡ n) (emp 𝓤) refl) $ nothing ! $ nothing ! $ fjoin ! $ nothing ! $ fjoin ! $
    returns ! (look_at ! 0 refl) $ free_all ! refl $ keep ! (3 ∷ 0 ∷ 2 ∷ 1 ∷ []) $
    by ! (leaves 𝓛 f.ended stayed c y (vptr pb spot) (record { ref_ptr = (pb, spot); now = n }) (tt, (tt, tt)) (tt, (tt, tt))))))))
