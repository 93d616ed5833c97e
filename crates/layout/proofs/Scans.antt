-- One pass over the records finds the first that breaks a rule. Assumes nothing.
use Rattle.std.proofs.Common.{◌≡◌, ℕ, zero, suc, ◌+◌, ◌<◌, ◌≤◌, Bool, true, false, cond, eqb, leb, List, length, drop, Some, None, Option, sym, refl, ap, ◌∙◌, subst, ⊎_elim, add-one, arith, drop-cons, below_more}
use Rattle.std.proofs.lemmas.List.{drop_all}
use Rattle.std.proofs.lemmas.Bool.{leb-true, leb-false, eqb-true, eqb-false, and_parts, and_from, cases_lt, cases_eq, cases_Bool, both_ways}
use Rattle.std.proofs.lemmas.Bool.Decides.{nat_tests}
use Rattle.layout.specs.declared.record.Record.{Record}
use Rattle.layout.specs.declared.limits.Limits.{Limits}
use Rattle.layout.specs.declared.fault.LoadFault.{LoadFault}
use Rattle.layout.specs.declared.fault.LoadFault.TheVariants.{Short, OutOfRange, WrongLength, OffLine, Misplaced, TooDeep, SmallTable}
use Rattle.layout.specs.declared.rules.Track.{Track}
use Rattle.layout.specs.Rules.{Parts, no_record, sized, entry, group, lined, bodies_end, Placed, Ruled, Kept, FirstBreak}
use Rattle.layout.specs.Scan.{start, fitting, level_at, along, fault_of, or_later, scan, first_fault, faultless, kept}
use Rattle.layout.proofs.Bodies.{Before, ends_rise, body_found, inside_end}
use Rattle.layout.proofs.Depths.{Only, Above, root, upper, Level, depth_here}

module _ (l m most : ℕ) (rs : List Record) where
  -- what the pass knows when it comes to record i
  record Known (i : ℕ) (t : Track) : Type 0 where
    ruled : (j : ℕ) → j < i → Ruled l m most rs j
    next : t.next ≡ bodies_end rs i
    level : Level rs i t.level t.upto

  known_start : Known 0 start
  known_start = record { ruled = λ j h. absurd (omega arith); next = refl; level = record { s = 0; from = omega arith; upto = omega arith; ends = refl; here = λ j a h. absurd (omega arith); above = root } }

  placed_before : (i : ℕ) (t : Track) → Known i t → Before rs i
  placed_before i t k j h = (k.ruled j h).placed

  -- the depth of record i, once it is placed by rule
  enter : (i : ℕ) (t : Track) → Known i t → Placed rs i → let u = along i t (entry rs i) in Level rs i u.level u.upto × (i < u.upto)
  enter i t k p = ⊎_elim
      (λ at. subst (λ b. Level rs i (cond b (t.level + 1) t.level) (cond b t.next t.upto) × (i < cond b t.next t.upto)) (sym at) (shifted (eqb-true i t.upto at)))
      (λ at. subst (λ b. Level rs i (cond b (t.level + 1) t.level) (cond b t.next t.upto) × (i < cond b t.next t.upto)) (sym at)
      (k.level, let ne : i ≡ t.upto → ⊥ = eqb-false i t.upto at in omega (arith, k.level.upto)))
      (cases_Bool (eqb i t.upto))
    where
      shifted : i ≡ t.upto → Level rs i (t.level + 1) t.next × (i < t.next)
      shifted is =
          let v = k.level in
          let pos : 0 < i = let r = ends_rise rs 0 v.s (omega arith) (λ x h. placed_before i t k x (omega (arith, v.from))) in omega (arith, r, v.ends) in
          let lt : i < t.next = omega (arith, inside_end rs i (p.inside pos).0 (p.inside pos).1 (placed_before i t k), k.next) in (
            record {
              s = i;
              from = omega arith;
              upto = omega arith;
              ends = sym k.next;
              here = λ j a h. absurd (omega arith);
              above = subst (Above rs i) (sym (add-one t.level)) (upper v.s v.from (v.ends ∙ sym is) v.here);
            },
            lt,
          )

  only_depth : (i : ℕ) (t : Track) → Known i t → Placed rs i → Only rs i (level_at i t)
  only_depth i t k p =
      let v = enter i t k p in
      depth_here rs i v.0.s (level_at i t) (along i t (entry rs i)).upto v.0.above (placed_before i t k) p v.0.ends v.0.from v.1

  -- one record more
  known_more : (i : ℕ) (t : Track) → Known i t → lined l m (entry rs i) ≡ true → Placed rs i → level_at i t ≤ most → Known (i + 1) (along i t (entry rs i))
  known_more i t k line p low =
      let v = enter i t k p in
      let only = only_depth i t k p in
      record {
        ruled = below_more (Ruled l m most rs) i k.ruled (record { line = line; placed = p; shallow = λ d q. omega (arith, only.1 d q) });
        next = subst (λ x. cond (group (entry rs i)) ((entry rs i).a + (entry rs i).b) x ≡ bodies_end rs (i + 1)) (sym k.next) (ap (bodies_end rs) (sym (add-one i)));
        level = record {
          s = v.0.s;
          from = omega (arith, v.0.from);
          upto = omega (arith, v.1);
          ends = v.0.ends;
          here = λ j a h. ⊎_elim (λ (b : j < i). v.0.here j a b) (λ (b : i ≤ j). let e : i ≡ j = omega arith in subst (λ x. Only rs x (level_at i t)) e only) (cases_lt j i);
          above = v.0.above;
        };
      }

  fitting_placed : (i : ℕ) (t : Track) → Known i t → fitting (length rs) i t.next (entry rs i) ≡ true → Placed rs i
  fitting_placed i t k ok = record {
    brace = λ z. (grind (arith, nat_tests), grind (arith, nat_tests));
    inside = λ pos. body_found rs i i pos (omega arith) (placed_before i t k) (let next = k.next in grind (arith, nat_tests));
    body = λ is. (let next = k.next in grind (arith, nat_tests), grind (arith, nat_tests));
  }

  placed_fitting : (i : ℕ) (t : Track) → Known i t → Placed rs i → fitting (length rs) i t.next (entry rs i) ≡ true
  placed_fitting i t k p = ⊎_elim
      (λ (z : i ≡ 0). let brace = p.brace z in let body = p.body brace.0 in let next = k.next in grind (arith, nat_tests))
      (λ (ne : i ≡ 0 → ⊥).
      let b = p.inside (omega arith) in
      let lt = inside_end rs i b.0 b.1 (placed_before i t k) in
      let next = k.next in
      let body = p.body in
      grind (arith, nat_tests))
      (cases_eq i 0)

  -- what the answer of a check tells
  abbrev pub Told : Option LoadFault → Type 0
  Told None = (i : ℕ) → i < length rs → Ruled l m most rs i
  Told (Some f) = FirstBreak l m most rs f

  decide : (i : ℕ) (t : Track) (b c d : Bool) (later : Option LoadFault) → i < length rs → Known i t →
      lined l m (entry rs i) ≡ b → fitting (length rs) i t.next (entry rs i) ≡ c → leb (level_at i t) most ≡ d →
      (Known (i + 1) (along i t (entry rs i)) → Told later) →
      Told (or_later (cond b (cond c (cond d None (Some (TooDeep i))) (Some (Misplaced i))) (Some (OffLine i))) later)
  decide i t true true true later in_range k line fit low more = more (known_more i t k line (fitting_placed i t k fit) (leb-true (level_at i t) most low))
  decide i t true true false later in_range k line fit low more =
      let p = fitting_placed i t k fit in
      ((in_range, k.ruled), line, p, λ shallow. omega (arith, leb-false (level_at i t) most low, shallow (level_at i t) (only_depth i t k p).0))
  decide i t true false d later in_range k line fit low more = ((in_range, k.ruled), line, λ p. both_ways _ fit (placed_fitting i t k p))
  decide i t false c d later in_range k line fit low more = ((in_range, k.ruled), λ ok. both_ways _ line ok)

  exact : (n i : ℕ) (t : Track) → i + n ≡ length rs → Known i t → Told (scan l m most (length rs) i t (drop i rs))
  exact zero i t is k = subst (λ xs. Told (scan l m most (length rs) i t xs)) (sym (drop_all i rs (omega arith))) (λ j h. k.ruled j (omega arith))
  exact (suc n) i t is k = subst (λ xs. Told (scan l m most (length rs) i t xs)) (sym (drop-cons rs i no_record (omega arith)))
      (decide i t (lined l m (entry rs i)) (fitting (length rs) i t.next (entry rs i)) (leb (level_at i t) most) _ (omega arith) k refl refl refl
      (λ more. subst (λ x. Told (scan l m most (length rs) (i + 1) (along i t (entry rs i)) (drop x rs))) (add-one i) (exact n (i + 1) (along i t (entry rs i)) (omega arith) more)))

  -- the pass is exact: it finds no fault in lawful records alone, and else the first
  pub told_at : (o : Option LoadFault) → o ≡ first_fault l m most rs → Told o
  unfolding first_fault
  told_at o e = subst Told (sym e) (exact (length rs) 0 start (omega arith) known_start)

  -- a fault and the rules kept by all exclude each other
  breaks_no_law : (f : LoadFault) → FirstBreak l m most rs f → Told None → ⊥
  breaks_no_law (OffLine i) b ok = b.1 (ok i b.0.0).line
  breaks_no_law (Misplaced i) b ok = b.2 (ok i b.0.0).placed
  breaks_no_law (TooDeep i) b ok = b.3 (ok i b.0.0).shallow
  breaks_no_law Short b ok = b
  breaks_no_law OutOfRange b ok = b
  breaks_no_law WrongLength b ok = b
  breaks_no_law SmallTable b ok = b

  -- lawful records have no fault
  pub lawful_faultless : Told None → first_fault l m most rs ≡ None
  lawful_faultless ok = go (first_fault l m most rs) (told_at _ refl)
    where
      go : (o : Option LoadFault) → Told o → o ≡ None
      go None t = refl
      go (Some f) t = absurd (breaks_no_law f t ok)

-- a record with no fault is not too deep
module _ (l m most n i : ℕ) (t : Track) (rs : List Record) (r : Record) (in_range : i < length rs) (is : r ≡ entry rs i) where
  pub level_low : fault_of l m most n i t r ≡ None → (along i t r).level ≤ most
  level_low = go (lined l m r) (fitting n i t.next r) (leb (level_at i t) most) refl
    where
      go : (b c d : Bool) → leb (level_at i t) most ≡ d → cond b (cond c (cond d None (Some (TooDeep i))) (Some (Misplaced i))) (Some (OffLine i)) ≡ None → level_at i t ≤ most
      go true true true low e = leb-true (level_at i t) most low
      go true true false low e = absurd (let z : ◌≡◌ {A = ℕ} 0 1 = cc in omega arith)
      go true false d low e = absurd (let z : ◌≡◌ {A = ℕ} 0 1 = cc in omega arith)
      go false c d low e = absurd (let z : ◌≡◌ {A = ℕ} 0 1 = cc in omega arith)

-- the test of all rules tells whether they are kept
module _ (lim : Limits) (p : Parts) where
  pub kept_rules : kept lim p ≡ true → Kept lim p
  unfolding kept
  kept_rules e =
      let two = and_parts (sized lim (length p.records) (length p.names) (length p.strings)) _ e in
      record { sizes = two.0; each = go (first_fault (length p.names) (length p.strings) lim.depth p.records) (told_at _ _ _ _ _ refl) two.1 }
    where
      go : (o : Option LoadFault) → Told (length p.names) (length p.strings) lim.depth p.records o → faultless o ≡ true → (i : ℕ) → i < length p.records → Ruled (length p.names) (length p.strings) lim.depth p.records i
      go None t e = t
      go (Some f) t e = cc

  pub rules_kept : Kept lim p → kept lim p ≡ true
  unfolding kept
  rules_kept k = and_from _ _ k.sizes (ap faultless (lawful_faultless (length p.names) (length p.strings) lim.depth p.records k.each))
