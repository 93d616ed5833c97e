-- What one call of a member list does, and from it the law over runs. Assumes nothing.
use Rattle.std.proofs.Common.{◌≡◌, ℕ, ◌+◌, ◌<◌, ◌≤◌, Bool, true, false, cond, eqb, ltb, List, [], ◌∷◌, length, None, Ok, Err, Option, is_ok, sym, refl, ap, ◌∙◌, subst, ⊎_elim, arith}
use Rattle.std.proofs.lemmas.Bool.{cond_both, ltb-false, eqb-true}
use Rattle.std.proofs.lemmas.Bool.Decides.{nat_tests}
use Rattle.layout.specs.Rules.{Parts, limits, entry, Kept}
use Rattle.layout.proofs.Scans.{rules_kept}
use Rattle.sheet.specs.declared.spot.Spot.{Spot}
use Rattle.sheet.specs.declared.spot.Rest.{Rest}
use Rattle.sheet.specs.declared.token.Group.{Group}
use Rattle.sheet.specs.declared.token.Punct.{Punct}
use Rattle.sheet.specs.declared.token.Token.{Token}
use Rattle.sheet.specs.declared.token.Token.TheVariants as tokens
use Rattle.sheet.specs.Tokens.{token}
use Rattle.sheet.specs.Spots.{holds, is_run, stands, past, last_passed, at_root, Rested}
use Rattle.sheet.proofs.Lines.{group_line}
use Rattle.sheet.proofs.Runs.{one_holds, rest_full, full}
use Rattle.token_de.specs.declared.seed.Taken.{Taken}
use Rattle.token_de.specs.declared.fault.Fault.TheVariants.{Leftover}
use Rattle.token_de.specs.Meaning.{Answer, Lawful}
use Rattle.access.specs.Plain.{equals_mark, comma, is_mark, marked, Turn, key, value, over, Step, step, key_taken, element_taken, key_step, key_read, value_step, value_read, finish_step, finished}
use Rattle.access.specs.Nested.{InTree}
use Rattle.access.proofs.Nested.{trees_apart, in_body}
use Rattle.access.specs.Calls.{Erased, State, Event, key_call, value_call, finish_call, after, Answers, Calls, finally, has_key, number, trees, answer_of, taken, Follows, Marks, Accounted, Begins, ListLaw}

-- the list stands in its run
abbrev On : Parts → Spot → Type 0
On h s = stands h s ≡ true

mark_is : (c : Punct) (t : Token) → is_mark c t ≡ true → t ≡ tokens.Punct c
mark_is c (tokens.Punct d) e = ap (λ (n : ℕ). tokens.Punct (record { code = n })) (eqb-true d.code c.code e)
mark_is c (tokens.Ident p) e = cc
mark_is c (tokens.String p) e = cc
mark_is c (tokens.Literal l) e = cc
mark_is c (tokens.Group g) e = cc

marked_is : (h : Parts) (c : Punct) (q e : ℕ) → marked h c q e ≡ true → (q < e) × (token h q ≡ tokens.Punct c)
marked_is h c q e ok = grind (arith, nat_tests, mark_is)

-- a spot further on in its run stands there too
on_later : (h : Parts) (s : Spot) (q : ℕ) → s.place ≤ q → q ≤ s.end → On h s → On h (past s q)
on_later h s q low high on = grind (arith, nat_tests)

on_within : (h : Parts) (s : Spot) → On h s → s.place ≤ s.end
on_within h s on = grind (arith, nat_tests)

-- what a call did that took n trees, with at most the mark c after them
record Moved (h : Parts) (c : Punct) (s : Spot) (n : ℕ) (u : Turn) (t : Spot) : Type 0 where
  on : On h t
  end : t.end ≡ s.end
  low : s.place + n ≤ t.place
  high : t.place ≤ (s.place + n) + 1
  mark : s.place + n < t.place → (0 < n) × (token h (s.place + n) ≡ tokens.Punct c)
  ended : u ≡ over → t.place ≡ t.end

unmoved : (h : Parts) (c : Punct) (s : Spot) (u : Turn) → On h s → (u ≡ over → s.place ≡ s.end) → Moved h c s 0 u s
unmoved h c s u on ended = record { on = on; end = refl; low = omega arith; high = omega arith; mark = λ l. absurd (omega arith); ended = ended }

-- q is behind n trees of the run, with at most the mark c after them
record Behind (h : Parts) (c : Punct) (s : Spot) (n q : ℕ) : Type 0 where
  low : s.place + n ≤ q
  high : q ≤ (s.place + n) + 1
  inside : q ≤ s.end
  mark : s.place + n < q → (0 < n) × (token h (s.place + n) ≡ tokens.Punct c)

moved_behind : (h : Parts) (c : Punct) (s : Spot) (n q : ℕ) (u : Turn) → On h s → Behind h c s n q → (u ≡ over → ⊥) → Moved h c s n u (past s q)
moved_behind h c s n q u on b going = record {
  on = on_later h s q (omega arith) b.inside on;
  end = refl;
  low = b.low;
  high = b.high;
  mark = b.mark;
  ended = λ is. absurd (going is);
}

module _ (h : Parts) (m : Erased) (s : Spot) (k : Kept limits h) (on : On h s) (lawful : Lawful m) where
  told : Rested h s (full s)
  told = rest_full h s (rules_kept limits h k) on

  abbrev read : Answer (Taken (Unit {0}))
  read = m h s.place s.end (last_passed s)

  within : (t : Taken (Unit {0})) → read ≡ Ok t → (0 < t.count) × (s.place + t.count ≤ s.end)
  within t is = lawful.within h s.place s.end (last_passed s) t k told.run is

  -- behind the trees alone, and behind the mark after them
  bare : (c : Punct) (t : Taken (Unit {0})) → read ≡ Ok t → Behind h c s t.count (s.place + t.count)
  bare c t is = record { low = omega arith; high = omega arith; inside = (within t is).1; mark = λ l. absurd (omega arith) }

  with_mark : (c : Punct) (t : Taken (Unit {0})) → read ≡ Ok t → marked h c (s.place + t.count) s.end ≡ true → Behind h c s t.count (s.place + t.count + 1)
  with_mark c t is ok =
      let a = marked_is h c (s.place + t.count) s.end ok in
      record { low = omega arith; high = omega arith; inside = omega (arith, a.0); mark = λ _. ((within t is).0, a.1) }

  key_behind : (o : Answer (Taken (Unit {0}))) → read ≡ o → (x : Unit {0} × ℕ) → key_taken h s.place s.end o ≡ Ok x → Behind h equals_mark s (number o) x.1
  key_behind (Ok t) is x = cond_both (marked h equals_mark (s.place + t.count) s.end) _ _ (λ a. a ≡ Ok x → Behind h equals_mark s t.count x.1)
      (λ ok e. let same : s.place + t.count + 1 ≡ x.1 = cc in subst (Behind h equals_mark s t.count) same (with_mark equals_mark t is ok))
      (λ _ e. cc)
  key_behind (Err f) is x = λ e. cc

  element_behind : (o : Answer (Taken (Unit {0}))) → read ≡ o → (x : Unit {0} × ℕ) → element_taken h s.place s.end o ≡ Ok x → Behind h comma s (number o) x.1
  element_behind (Ok t) is x = cond_both (eqb (s.place + t.count) s.end) _ _ (λ a. a ≡ Ok x → Behind h comma s t.count x.1)
      (λ _ e. let same : s.place + t.count ≡ x.1 = cc in subst (Behind h comma s t.count) same (bare comma t is))
      (λ _. cond_both (marked h comma (s.place + t.count) s.end) _ _ (λ a. a ≡ Ok x → Behind h comma s t.count x.1)
      (λ ok e. let same : s.place + t.count + 1 ≡ x.1 = cc in subst (Behind h comma s t.count) same (with_mark comma t is ok))
      (λ _ e. cc))
  element_behind (Err f) is x = λ e. cc

  -- what a key read does at the rest r
  abbrev key_at : Rest → Step (Option (Unit {0}))
  key_at r = cond (eqb r.from r.to) (step (Ok None) key s) (key_step s (key_taken h r.from r.to (m h r.from r.to r.last)))

  abbrev Key_moved : Rest → Type 0
  Key_moved r = Moved h equals_mark s (trees (m h r.from r.to r.last) (has_key (key_at r).said)) (key_at r).turn (key_at r).at

  key_full : Key_moved (full s)
  key_full = cond_both (eqb s.place s.end) (step (Ok None) key s) (key_step s (key_taken h s.place s.end read))
      (λ d. Moved h equals_mark s (trees read (has_key d.said)) d.turn d.at)
      (λ _. unmoved h equals_mark s key on (λ e. cc))
      (λ _. go (key_taken h s.place s.end read) refl)
    where
      go : (x : Answer (Unit {0} × ℕ)) → key_taken h s.place s.end read ≡ x → let d = key_step s x in Moved h equals_mark s (trees read (has_key d.said)) d.turn d.at
      go (Ok x) is = moved_behind h equals_mark s (number read) x.1 value on (key_behind read refl x is) (λ e. cc)
      go (Err f) is = unmoved h equals_mark s key on (λ e. cc)

  key_moved : Moved h equals_mark s (trees (answer_of h m s) (has_key (key_read h m s).said)) (key_read h m s).turn (key_read h m s).at
  key_moved = subst Key_moved told.is key_full

  -- what a value read does at the rest r
  abbrev value_at : Rest → Step (Unit {0})
  value_at r = value_step r.from r.to s (element_taken h r.from r.to (m h r.from r.to r.last))

  abbrev Value_moved : Rest → Type 0
  Value_moved r = Moved h comma s (trees (m h r.from r.to r.last) (is_ok (value_at r).said)) (value_at r).turn (value_at r).at

  value_full : Value_moved (full s)
  value_full = go (element_taken h s.place s.end read) refl
    where
      go : (x : Answer (Unit {0} × ℕ)) → element_taken h s.place s.end read ≡ x → let d = value_step s.place s.end s x in Moved h comma s (trees read (is_ok d.said)) d.turn d.at
      go (Ok x) is = moved_behind h comma s (number read) x.1 key on (element_behind read refl x is) (λ e. cc)
      go (Err f) is = unmoved h comma s value on (λ e. cc)

  value_moved : Moved h comma s (trees (answer_of h m s) (is_ok (value_read h m s).said)) (value_read h m s).turn (value_read h m s).at
  value_moved = subst Value_moved told.is value_full

-- a finish, which passes nothing
finish_moved : (h : Parts) (s : Spot) → Kept limits h → On h s → Moved h comma s 0 (finished h s).turn (finished h s).at
finish_moved h s k on = subst (λ (r : Rest). Finish_moved (cond (ltb r.from r.to) (Err (Leftover r.from)) (Ok tt))) (rest_full h s (rules_kept limits h k) on).is
    (cond_both (ltb s.place s.end) (Err (Leftover s.place)) (Ok tt) Finish_moved
    (λ e. unmoved h comma s key on (λ e. cc))
    (λ e. unmoved h comma s over on (λ _. omega (arith, ltb-false s.place s.end e, on_within h s on))))
  where
    Finish_moved : Answer (Unit {0}) → Type 0
    Finish_moved a = let d = finish_step s a in Moved h comma s 0 d.turn d.at

-- a token passed and not taken is the call's mark
follows : (h : Parts) (c : Punct) (s : Spot) (o : Answer (Taken (Unit {0}))) (b : Bool) (k : ℕ) → k ≡ s.place + trees o b → 0 < trees o b → token h (s.place + trees o b) ≡ tokens.Punct c → Follows h c s o b k
follows h c s o true k is some at = (is, ap (token h) is ∙ at)
follows h c s o false k is some at = absurd (omega arith)

module _ (h : Parts) (kept : Kept limits h) where
  -- the mark after a call's trees
  mark_of : Event → Punct
  mark_of (key_call m a) = equals_mark
  mark_of (value_call m a) = comma
  mark_of (finish_call a) = comma

  moved : (s : State) (e : Event) → On h s.at → Answers h s e → Moved h (mark_of e) s.at (taken h s e) (after h s e).turn (after h s e).at
  unfolding mark_of
  moved s (key_call m a) on ok = subst (λ x. Moved h equals_mark s.at (trees (answer_of h m s.at) (has_key x)) (key_read h m s.at).turn (key_read h m s.at).at) (sym ok.2) (key_moved h m s.at kept on ok.1)
  moved s (value_call m a) on ok = subst (λ x. Moved h comma s.at (trees (answer_of h m s.at) (is_ok x)) (value_read h m s.at).turn (value_read h m s.at).at) (sym ok.2) (value_moved h m s.at kept on ok.1)
  moved s (finish_call a) on ok = finish_moved h s.at kept on

  marks : (s : State) (e : Event) (k : ℕ) → k ≡ s.at.place + taken h s e → 0 < taken h s e → token h (s.at.place + taken h s e) ≡ tokens.Punct (mark_of e) → Marks h s e k
  unfolding mark_of
  marks s (key_call m a) k is some at = follows h equals_mark s.at (answer_of h m s.at) (has_key a) k is some at
  marks s (value_call m a) k is some at = follows h comma s.at (answer_of h m s.at) (is_ok a) k is some at
  marks s (finish_call a) k is some at = absurd (omega arith)

  -- what a run shows, and that it does not go back
  record Told (s : State) (log : List Event) : Type 0 where
    forth : s.at.place ≤ (finally h s log).at.place
    all : Accounted h s log

  -- one call more, before a run
  more : (s : State) (e : Event) (es : List Event) → Moved h (mark_of e) s.at (taken h s e) (after h s e).turn (after h s e).at → Told (after h s e) es → Told s (e ∷ es)
  more s e es mv ih = record {
    forth = omega arith;
    all = record {
      once = λ k. grind (arith, nat_tests, ih.all.once k, ih.all.others k);
      passed = λ k l u. grind (arith, nat_tests, ih.all.passed k, ih.all.others k, mv.mark, marks s e k);
      others = λ k o. grind (arith, nat_tests, ih.all.others k);
      whole = λ ends. ih.all.whole ends ∙ mv.end;
    };
  }

  all_told : (s : State) (log : List Event) → On h s.at → (s.turn ≡ over → s.at.place ≡ s.at.end) → Calls h s log → Told s log
  all_told s [] on ended calls = record {
    forth = omega arith;
    all = record {
      once = λ k. omega arith;
      passed = λ k l u. absurd (omega arith);
      others = λ k _. refl;
      whole = ended;
    };
  }
  all_told s (e ∷ es) on ended calls = let mv = moved s e on calls.0 in more s e es mv (all_told (after h s e) es mv.on mv.ended calls.1)

-- a group's body is a run of its sheet
group_holds : (h : Parts) (i : ℕ) (g : Group) → Kept limits h → i < length h.records → token h i ≡ tokens.Group g → holds (entry h.records i) g.first (g.first + g.count) ≡ true
unfolding token
group_holds h i g k in_range is =
    let l = group_line (length h.names) (length h.strings) (entry h.records i) (k.each i in_range).line g (sym is) in
    grind (arith, nat_tests, l)

-- a list stands on its sheet where it begins
begins_on : (h : Parts) (s : State) → Kept limits h → Begins h s → On h s.at
unfolding is_run
begins_on h s k b = ⊎_elim
    (λ (r : s.at ≡ at_root). subst (On h) (sym r) refl)
    (λ x. subst (On h) (sym x.4)
    (let some = one_holds h.records x.0 x.1.first (x.1.first + x.1.count) x.2 (group_holds h x.0 x.1 k x.2 x.3) in grind (arith, nat_tests, some)))
    b.1

trees_of_run : (h : Parts) (s : State) (i k l : ℕ) → Kept limits h → Begins h s → i < length h.records → s.at.first ≤ k → k < s.at.end → s.at.first ≤ l → l < s.at.end →
    InTree h.records k i → InTree h.records l i → k ≡ l
unfolding token
trees_of_run h s i k l kept b in_range a c d e x y = ⊎_elim
    (λ (r : s.at ≡ at_root). let first = ap (λ (t : Spot). t.first) r in let end = ap (λ (t : Spot). t.end) r in omega arith)
    (λ z.
    let first = ap (λ (t : Spot). t.first) z.4 in
    let end = ap (λ (t : Spot). t.end) z.4 in
    let is = group_line (length h.names) (length h.strings) (entry h.records z.0) (kept.each z.0 z.2).line z.1 (sym z.3) in
    let placed = λ (j : ℕ) (r : j < length h.records). (kept.each j r).placed in
    trees_apart h.records placed z.0 k l i in_range
    (in_body h.records placed z.0 k z.2 is.0 (omega (arith, is.1, first)) (omega (arith, is.1, is.2, end)))
    (in_body h.records placed z.0 l z.2 is.0 (omega (arith, is.1, first)) (omega (arith, is.1, is.2, end))) x y)
    b.1

pub list_law : ListLaw
list_law = record {
  runs = λ h s log kept begins calls. (all_told h kept s log (begins_on h s kept begins) (λ e. cc begins.0) calls).all;
  apart = trees_of_run;
}
