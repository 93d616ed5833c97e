-- Trees that stand side by side in one body share no record. Assumes nothing.
use Rattle.std.proofs.Common.{◌≡◌, ℕ, suc, ◌+◌, ◌<◌, ◌≤◌, true, List, length, sym, refl, subst, ⊎_elim, arith}
use Rattle.std.proofs.lemmas.Bool.{cases_order, cases_eq}
use Rattle.layout.specs.declared.record.Record.{Record}
use Rattle.layout.specs.Rules.{entry, group, bodies_end, InBody, Placed}
use Rattle.layout.proofs.Bodies.{end_of, ends_rise, inside_end}
use Rattle.access.specs.Nested.{InTree, self, inside}

module _ (rs : List Record) (placed : (i : ℕ) → i < length rs → Placed rs i) where
  -- a record lies in one body at most
  apart : (f g i : ℕ) → i < length rs → f < g → InBody rs f i → InBody rs g i → ⊥
  apart f g i in_range lt b c =
      let r = ends_rise rs (suc f) g (omega arith) (λ j h. placed j (omega (arith, c.earlier))) in
      omega (arith, r, end_of rs f b.is_group, b.upto, ((placed g (omega (arith, c.earlier))).body c.is_group).0, c.from)

  pub one_parent : (f g i : ℕ) → i < length rs → InBody rs f i → InBody rs g i → f ≡ g
  one_parent f g i in_range b c = ⊎_elim (λ same. same) (⊎_elim (λ lt. absurd (apart f g i in_range lt b c)) (λ gt. absurd (apart g f i in_range gt c b))) (cases_order f g)

  -- a tree begins at its root
  pub tree_from : (k i : ℕ) → InTree rs k i → k ≤ i
  tree_from k i self = omega arith
  tree_from k i (inside {g} j b t) = omega (arith, tree_from k g t, b.earlier)

  -- a record of one body is in the tree of another of that body only if it is that one
  neighbours : (p k i : ℕ) → i < length rs → InBody rs p k → InBody rs p i → InTree rs k i → k ≡ i
  neighbours p k i in_range b c self = refl
  neighbours p k i in_range b c (inside {g} j d u) = absurd (omega (arith, tree_from k g u, one_parent g p j in_range d c, b.earlier))

  pub trees_apart : (p k l i : ℕ) → i < length rs → InBody rs p k → InBody rs p l → InTree rs k i → InTree rs l i → k ≡ l
  trees_apart p k l i in_range b c self u = sym (neighbours p l k in_range c b u)
  trees_apart p k l i in_range b c (inside {g} j d t) self = neighbours p k l in_range b c (inside j d t)
  trees_apart p k l i in_range b c (inside {g = g} j d t) (inside {g = f} m e u) =
      trees_apart p k l g (omega (arith, d.earlier)) b c t (subst (InTree rs l) (one_parent f g j in_range e d) u)

-- the records of a group's body lie in it
pub in_body : (rs : List Record) → ((i : ℕ) → i < length rs → Placed rs i) → (p k : ℕ) → p < length rs → group (entry rs p) ≡ true → (entry rs p).a ≤ k → k < (entry rs p).a + (entry rs p).b → InBody rs p k
in_body rs placed p k in_range is low high = record { earlier = omega (arith, behind, ((placed p in_range).body is).0); is_group = is; from = low; upto = high }
  where
    behind : p < bodies_end rs p
    behind = ⊎_elim
        (λ (z : p ≡ 0). subst (λ x. x < bodies_end rs x) (sym z) (omega arith))
        (λ (pos : p ≡ 0 → ⊥). let b = (placed p in_range).inside (omega arith) in inside_end rs p b.0 b.1 (λ j h. placed j (omega arith)))
        (cases_eq p 0)
