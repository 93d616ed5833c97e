-- Content is its grammar by levels: what is taken are its words, each with one reading. Assumes nothing.
use Rattle.std.specs.Prelude.{◌≡◌, ℕ, zero, suc, ◌+◌, ◌-◌, ◌<◌, ◌≤◌, false, ◌&&◌, None, Ok, Err, ◌==◌, nat_lt, refl}
use Rattle.std.proofs.Common.{sym, ap, subst, ◌∙◌, arith}
use mathlib.Core.HLevel.{is_prop→PathP}
use Rattle.std.proofs.Math.Bridge.{le_prop}
use Rattle.std.proofs.Math.Nat.{ℕ_set}
use Rattle.std.proofs.lemmas.Bool.{lt-ltb, eq-eqb, ne_eqb, eqb-true, eqb-false, and_parts, cond_both}
use Rattle.layout.specs.Rules.{Parts}
use Rattle.layout.specs.declared.kind.Delimiter.{Delimiter}
use Rattle.layout.specs.declared.kind.Delimiter.TheVariants.{Parenthesis, Brace, Bracket, Invisible}
use Rattle.sheet.specs.declared.token.Token.{Token}
use Rattle.sheet.specs.declared.token.Token.TheVariants as tokens
use Rattle.sheet.specs.Tokens.{token}
use Rattle.token_de.specs.declared.seed.Taken.{Taken}
use Rattle.token_de.specs.Meaning.{Answer}
use Rattle.token_de.specs.Steps.{◌then◌}
use Rattle.content.specs.declared.datum.Counted.{Counted}
use Rattle.content.specs.declared.datum.Datum.{Datum}
use Rattle.content.specs.declared.datum.Datum.TheVariants as datum
use Rattle.content.specs.Levels.{Inside, Levels}
use Rattle.content.specs.Bodies.{Reads, body, entry}
use Rattle.content.specs.Contents.{content, from_token, from_group, negated, literal_value, alone, taken, list_value, map_value}
use Rattle.content.specs.Trees.{string}
use Rattle.content.specs.Steps.{Oks, oks_map, then_oks, content_in, content_first}
use Rattle.content.specs.Levelled.{Content, Shape, plain, negative, group, Grouped, empty, parenthesis, bracket, brace, invisible, Items, Entry}
use Rattle.content.specs.Readings.{Fits, entry_fits, body_sound, body_complete, body_one}
use Rattle.content.specs.Atoms.{datum_set, name_sound, literal_sound, plain_complete, plain_one, negated_sound, negated_complete, negated_one}

some_count : (count : ℕ) → (count == 0) ≡ false → 0 < count
some_count count no_zero = let ne = eqb-false count 0 no_zero in omega (arith, ne)

-- a list's or a map's value has its count
same_list : (v : Datum) (p n m : ℕ) → v ≡ datum.List (record { group = p; count = n }) → v ≡ datum.List (record { group = p; count = m }) → n ≡ m
same_list v p n m a b = let same : ◌≡◌ {A = Counted} (record { group = p; count = n }) (record { group = p; count = m }) = cc in ap (λ (x : Counted). x.count) same

same_map : (v : Datum) (p n m : ℕ) → v ≡ datum.Map (record { group = p; count = n }) → v ≡ datum.Map (record { group = p; count = m }) → n ≡ m
same_map v p n m a b = let same : ◌≡◌ {A = Counted} (record { group = p; count = n }) (record { group = p; count = m }) = cc in ap (λ (x : Counted). x.count) same

counting : (m n : ℕ) (v : Datum) → m ≡ n → taken m v ≡ taken n v
counting m n v e = ap (λ (x : ℕ). taken x v) e

valued : (v w : Datum) → w ≡ v → taken 1 v ≡ taken 1 w
valued v w e = ap (λ (x : Datum). taken 1 x) (sym e)

module _ (h : Parts) (m : Reads Datum) (W : ℕ → ℕ → Datum → Type 0) (L : ℕ → ℕ → Type 0) (below : (a b : ℕ) → L a b → Fits m W a b) where
  members : (a b : ℕ) → L a b → Fits (entry h m m) (Entry h W W) a b
  members a b l = entry_fits h m m W W a b (below a b l) (below a b l)

  abbrev GroupTaken : ℕ → ℕ → ℕ → Delimiter → Taken Datum → Type 0
  GroupTaken p first count d u = (u.count ≡ 1) × Grouped h W p u.value first count d

  alone_sound : (p first count : ℕ) → L first (first + count) → 0 < count → (u : Taken Datum) → m first (first + count) None ≡ Ok u → Oks (GroupTaken p first count Invisible) (alone first count u)
  alone_sound p first count l some u word =
      cond_both (u.count == count) _ _ (Oks (GroupTaken p first count Invisible))
      (λ whole. (refl, invisible some (subst (λ x. W first (first + x) u.value) (eqb-true u.count count whole) ((below first (first + count) l).sound first None u (omega arith) (omega arith) word))))
      (λ _. tt)

  group_sound : (p first count : ℕ) (d : Delimiter) → L first (first + count) → Oks (GroupTaken p first count d) (from_group h m p first count d)
  group_sound p first count Parenthesis l =
      cond_both (count == 0) _ _ (Oks (GroupTaken p first count Parenthesis))
      (λ zero. (refl, empty (eqb-true count 0 zero) refl))
      (λ some. then_oks (GroupTaken p first count Parenthesis) (body h m first (first + count)) (list_value p) (λ n is_n. (refl, parenthesis (some_count count some) n (body_sound h m W first (first + count) (omega arith) (below first (first + count) l) n is_n) refl)))
  group_sound p first count Bracket l = then_oks (GroupTaken p first count Bracket) (body h m first (first + count)) (list_value p) (λ n is_n. (refl, bracket n (body_sound h m W first (first + count) (omega arith) (below first (first + count) l) n is_n) refl))
  group_sound p first count Brace l = then_oks (GroupTaken p first count Brace) (body h (entry h m m) first (first + count)) (map_value p) (λ n is_n. (refl, brace n (body_sound h (entry h m m) (Entry h W W) first (first + count) (omega arith) (members first (first + count) l) n is_n) refl))
  group_sound p first count Invisible l =
      cond_both (count == 0) _ _ (Oks (GroupTaken p first count Invisible))
      (λ _. tt)
      (λ some. then_oks (GroupTaken p first count Invisible) (m first (first + count) None) (alone first count) (alone_sound p first count l (some_count count some)))

  abbrev Shaped : ℕ → Token → Taken Datum → Type 0
  Shaped p t u = Shape h W p (p + u.count) u.value t

  number_sound : (p n : ℕ) (t : Token) (P : Datum → Type 0) (r : Answer Datum) → Oks P r → ((v : Datum) → P v → Shape h W p (p + n) v t) → Oks (Shaped p t) (r then (λ v. taken n v))
  number_sound p n t P (Ok v) o shaped = shaped v o
  number_sound p n t P (Err f) o shaped = tt

  shape_sound : (p e : ℕ) (t : Token) → Inside L t → Oks (Shaped p t) (from_token h m p e t)
  shape_sound p e (tokens.Ident k) l = plain refl (name_sound h k)
  shape_sound p e (tokens.String k) l = plain refl (string refl)
  shape_sound p e (tokens.Punct k) l =
      cond_both (k.code == 45 && nat_lt (p + 1) e) _ _ (Oks (Shaped p (tokens.Punct k)))
      (λ both. number_sound p 2 (tokens.Punct k) _ (negated (token h (p + 1)) p) (negated_sound (token h (p + 1)) p) (λ v n. negative refl (eqb-true k.code 45 (and_parts (k.code == 45) (nat_lt (p + 1) e) both).0) n))
      (λ _. tt)
  shape_sound p e (tokens.Literal x) l = number_sound p 1 (tokens.Literal x) _ (literal_value x p) (literal_sound h x p) (λ v n. plain refl n)
  shape_sound p e (tokens.Group g) l =
      oks_map (GroupTaken p g.first g.count g.delimiter) (Shaped p (tokens.Group g)) (λ u w. group (ap (λ n. p + n) w.0) w.1)
      (from_group h m p g.first g.count g.delimiter) (group_sound p g.first g.count g.delimiter l)

  group_complete : (p first count : ℕ) (d : Delimiter) (v : Datum) → L first (first + count) → Grouped h W p v first count d → from_group h m p first count d ≡ taken 1 v
  group_complete p first count d v l (empty none is_v) = rw (eq-eqb count 0 none) (valued datum.Empty v is_v)
  group_complete p first count d v l (parenthesis some n words is_v) =
      let ne : count ≡ 0 → ⊥ = omega arith in
      rw (ne_eqb count 0 ne, body_complete h m W first (first + count) (omega arith) (below first (first + count) l) n words) (valued (datum.List (record { group = p; count = n })) v is_v)
  group_complete p first count d v l (bracket n words is_v) =
      rw (body_complete h m W first (first + count) (omega arith) (below first (first + count) l) n words) (valued (datum.List (record { group = p; count = n })) v is_v)
  group_complete p first count d v l (brace n words is_v) =
      rw (body_complete h (entry h m m) (Entry h W W) first (first + count) (omega arith) (members first (first + count) l) n words) (valued (datum.Map (record { group = p; count = n })) v is_v)
  group_complete p first count d v l (invisible some word) =
      let ne : count ≡ 0 → ⊥ = omega arith in
      let whole : first + count - first ≡ count = omega arith in
      rw (ne_eqb count 0 ne, (below first (first + count) l).complete first (first + count) None v (omega arith) (omega arith) (omega arith) word, eq-eqb (first + count - first) count whole)

  pub shape_complete : (p q e : ℕ) (v : Datum) (t : Token) → Inside L t → q ≤ e → Shape h W p q v t → from_token h m p e t ≡ taken (q - p) v
  shape_complete p q e v t l le (plain ends w) = plain_complete h m p e v t w ∙ counting 1 (q - p) v (omega arith)
  shape_complete p q e v t l le (negative {k} ends is_minus w) =
      let lt : p + 1 < e = omega arith in
      rw (eq-eqb k.code 45 is_minus, lt-ltb (p + 1) e lt, negated_complete p v (token h (p + 1)) w) (counting 2 (q - p) v (omega arith))
  shape_complete p q e v t l le (group {g} ends w) = group_complete p g.first g.count g.delimiter v l w ∙ counting 1 (q - p) v (omega arith)

  group_one : (p first count : ℕ) (d : Delimiter) (v : Datum) → L first (first + count) → IsProp (Grouped h W p v first count d)
  group_one p first count d v l (empty a b) (empty a' b') = λ i. empty (ℕ_set _ _ a a' i) (datum_set _ _ b b' i)
  group_one p first count d v l (empty a b) (parenthesis some n words is_v) = absurd (omega arith)
  group_one p first count d v l (parenthesis some n words is_v) (empty a b) = absurd (omega arith)
  group_one p first count d v l (parenthesis some n words is_v) (parenthesis some' n' words' is_v') =
      let nn = same_list v p n n' is_v is_v' in
      λ i. parenthesis (le_prop some some' i) (nn i)
      (is_prop→PathP (λ i. Items h W (first + count) first (nn i)) (λ i. body_one h m W first (first + count) (omega arith) (below first (first + count) l) (nn i)) words words' i)
      (is_prop→PathP (λ i. v ≡ datum.List (record { group = p; count = nn i })) (λ i. datum_set _ _) is_v is_v' i)
  group_one p first count d v l (bracket n words is_v) (bracket n' words' is_v') =
      let nn = same_list v p n n' is_v is_v' in
      λ i. bracket (nn i)
      (is_prop→PathP (λ i. Items h W (first + count) first (nn i)) (λ i. body_one h m W first (first + count) (omega arith) (below first (first + count) l) (nn i)) words words' i)
      (is_prop→PathP (λ i. v ≡ datum.List (record { group = p; count = nn i })) (λ i. datum_set _ _) is_v is_v' i)
  group_one p first count d v l (brace n words is_v) (brace n' words' is_v') =
      let nn = same_map v p n n' is_v is_v' in
      λ i. brace (nn i)
      (is_prop→PathP (λ i. Items h (Entry h W W) (first + count) first (nn i)) (λ i. body_one h (entry h m m) (Entry h W W) first (first + count) (omega arith) (members first (first + count) l) (nn i)) words words' i)
      (is_prop→PathP (λ i. v ≡ datum.Map (record { group = p; count = nn i })) (λ i. datum_set _ _) is_v is_v' i)
  group_one p first count d v l (invisible some word) (invisible some' word') =
      λ i. invisible (le_prop some some' i) ((below first (first + count) l).one first (first + count) v (omega arith) (omega arith) (omega arith) word word' i)

  pub shape_one : (p q : ℕ) (v : Datum) (t : Token) → Inside L t → IsProp (Shape h W p q v t)
  shape_one p q v t l (plain a w) (plain b x) = λ i. plain (ℕ_set _ _ a b i) (plain_one h v t w x i)
  shape_one p q v t l (plain a w) (negative b c x) = absurd (omega arith)
  shape_one p q v t l (plain a w) (group b x) = elim w [ ]
  shape_one p q v t l (negative b c x) (plain a w) = absurd (omega arith)
  shape_one p q v t l (negative a b w) (negative c d x) = λ i. negative (ℕ_set _ _ a c i) (ℕ_set _ _ b d i) (negated_one v (token h (p + 1)) w x i)
  shape_one p q v t l (group b x) (plain a w) = elim w [ ]
  shape_one p q v t l (group {g} a w) (group b x) = λ i. group (ℕ_set _ _ a b i) (group_one p g.first g.count g.delimiter v l w x i)

pub content_fits : (n : ℕ) (h : Parts) (first e : ℕ) → Levels n h first e → Fits (content n h) (Content n h) first e
unfolding content Content Levels
content_fits zero h first e l = record {
  within = λ p last t lo le found. content_in zero h p e last t found;
  sound = λ p last t lo le found. let z : ◌≡◌ {A = ℕ} 0 1 = cc in absurd (omega arith);
  complete = λ p q last v lo lt le w. elim w [ ];
  one = λ p q v lo lt le w. elim w [ ];
}
content_fits (suc n) h first e l =
    let below : (a b : ℕ) → Levels n h a b → Fits (content n h) (Content n h) a b = content_fits n h in
    record {
      within = λ p last t lo le found. content_in (suc n) h p e last t found;
      sound = λ p last t lo le found. let (lt, read) = content_first n h p e last t found in subst (Oks (λ u. Shape h (Content n h) p (p + u.count) u.value (token h p))) read (shape_sound h (content n h) (Content n h) (Levels n h) below p e (token h p) (l p lo lt));
      complete = λ p q last v lo lt le w. let lt' : p < e = omega arith in rw (lt-ltb p e lt') (shape_complete h (content n h) (Content n h) (Levels n h) below p q e v (token h p) (l p lo lt') le w);
      one = λ p q v lo lt le. shape_one h (content n h) (Content n h) (Levels n h) below p q v (token h p) (l p lo (omega arith));
    }
