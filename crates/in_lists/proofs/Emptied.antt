-- Nodes that are all alone have empty lists.
use Rattle.std.proofs.Common.{◌≡◌, ℕ, zero, suc, ◌+◌, List, [], length, replicate, get_or, Some, None, refl, sym, ap, ◌∙◌, subst, arith}
use Rattle.std.proofs.lemmas.List.{length-replicate}
use Rattle.in_lists.specs.declared.node.Node.{Node}
use Rattle.in_lists.specs.Nodes.{AllAlone}
use Rattle.in_lists.specs.Linked.{next_of, prev_of, Chain, In, AllDiffer, IsLinked}

pub no_list : (n g : ℕ) → let none : List ℕ = [] in get_or (replicate n none) g none ≡ none
no_list zero g = refl
no_list (suc n) zero = refl
no_list (suc n) (suc g) = no_list n g

pub empty_linked : (ns : List Node) (exits heads : ℕ) → AllAlone ns → length ns ≡ exits + heads → IsLinked ns exits (replicate heads [])
empty_linked ns exits heads apart long =
    let none : List ℕ = [] in
    record {
      count = omega (arith, length-replicate heads none);
      rings = λ h within. subst (λ l. Chain (next_of ns) (prev_of ns) (exits + h) l (exits + h)) (sym (no_list heads h)) (ap (λ n. n.next) (apart (exits + h)), ap (λ n. n.prev) (apart (exits + h)));
      owned = λ h e inside. absurd (subst (In e) (no_list heads h) inside);
      found = λ e h below has. let clash : None ≡ Some h = sym (ap (λ n. n.head) (apart e)) ∙ has in cc;
      differ = λ h. subst AllDiffer (sym (no_list heads h)) tt;
    }
