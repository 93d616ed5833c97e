-- The records of one depth are neighbours, and each record has one depth. Assumes nothing.
use Rattle.std.proofs.Common.{◌≡◌, ℕ, zero, suc, ◌<◌, ◌≤◌, List, refl, ap, subst, ⊎_elim, arith}
use Rattle.std.proofs.lemmas.Bool.{cases_lt}
use Rattle.layout.specs.declared.record.Record.{Record}
use Rattle.layout.specs.Rules.{bodies_end, InBody, Placed, Depth, top, below}
use Rattle.layout.proofs.Bodies.{Before, end_of, ends_rise}

module _ (rs : List Record) where
  -- d is the depth of record j, and it has no other
  abbrev pub Only : ℕ → ℕ → Type 0
  Only j d = Depth rs j d × ((x : ℕ) → Depth rs j x → x ≡ d)

  -- the depth above the one that begins at s
  pub data Above : ℕ → ℕ → Type 0 where
    root : Above zero zero
    upper : (s' : ℕ) {s d : ℕ} → s' ≤ s → bodies_end rs s' ≡ s → ((j : ℕ) → s' ≤ j → j < s → Only j d) → Above s (suc d)

  -- record i is at the depth d, whose records are those from s up to e
  pub record Level (i d e : ℕ) : Type 0 where
    pub s : ℕ
    pub from : s ≤ i
    pub upto : i ≤ e
    pub ends : bodies_end rs s ≡ e
    pub here : (j : ℕ) → s ≤ j → j < i → Only j d
    pub above : Above s d

  -- the group whose body holds a record of a depth is of the depth above
  parent : (i g s' s e : ℕ) → Before rs i → bodies_end rs s' ≡ s → bodies_end rs s ≡ e → s' ≤ s → s ≤ i → i < e → InBody rs g i → (s' ≤ g) × (g < s)
  parent i g s' s e ok from upto le low high b = (
    ⊎_elim
        (λ (l : g < s'). absurd (let r = ends_rise rs (suc g) s' (omega arith) (λ x h. ok x (omega arith)) in omega (arith, r, end_of rs g b.is_group, b.upto)))
        (λ (u : s' ≤ g). u)
        (cases_lt g s'),
    ⊎_elim
        (λ (l : g < s). l)
        (λ (u : s ≤ g). absurd (let r = ends_rise rs s g u (λ x h. ok x (omega (arith, b.earlier))) in omega (arith, r, ((ok g b.earlier).body b.is_group).0, b.from)))
        (cases_lt g s),
  )

  root_only : Only 0 0
  root_only = (top, only)
    where
      go : (i x : ℕ) → Depth rs i x → i ≡ 0 → x ≡ 0
      go i x top e = refl
      go i x (below k b p) e = absurd (omega (arith, b.earlier))

      only : (x : ℕ) → Depth rs 0 x → x ≡ 0
      only x p = go 0 x p refl

  -- a record of the depth that begins at s has that depth
  pub depth_here : (i s d e : ℕ) → Above s d → Before rs i → Placed rs i → bodies_end rs s ≡ e → s ≤ i → i < e → Only i d
  depth_here i s d e root ok p ends low high = let z : 0 ≡ i = omega (arith, ends) in subst (λ x. Only x 0) z root_only
  depth_here i s d e (upper s' {d = c} le from each) ok p ends low high =
      let one = ends_rise rs 0 s' (omega arith) (λ x h. ok x (omega arith)) in
      let pos : 0 < i = omega (arith, one, from) in
      let b = p.inside pos in
      let at = parent i b.0 s' s e ok from ends le low high b.1 in
      (below i b.1 (each b.0 at.0 at.1).0, λ x q. only pos i x q refl)
    where
      only : 0 < i → (k x : ℕ) → Depth rs k x → k ≡ i → x ≡ suc c
      only pos k x top is = absurd (omega arith)
      only pos k x (below {g} {d = y} j b q) is =
          let at = parent i g s' s e ok from ends le low high (subst (λ z. InBody rs g z) is b) in
          ap suc ((each g at.0 at.1).1 y q)
