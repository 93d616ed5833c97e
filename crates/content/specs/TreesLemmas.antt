-- The grammar of content with no levels, and the one with levels, are one on a sheet. Assumes nothing.
use Rattle.std.specs.Prelude.{◌≡◌, ℕ, zero, suc, ◌+◌, ◌-◌, ◌<◌, ◌≤◌, refl}
use Rattle.std.proofs.Math.Path.{sym, ap}
use Rattle.std.proofs.Common.{◌∙◌, arith}
use Rattle.layout.specs.Rules.{Parts, limits, Kept}
use Rattle.layout.specs.declared.kind.Delimiter.{Delimiter}
use Rattle.sheet.specs.declared.token.Token.{Token}
use Rattle.sheet.specs.Tokens.{token}
use Rattle.token_de.specs.declared.seed.Taken.{Taken}
use Rattle.token_de.specs.Meaning.{Exact}
use Rattle.content.specs.declared.datum.Datum.{Datum}
use Rattle.content.specs.Levels.{Inside, Levels}
use Rattle.content.specs.Contents.{content}
use Rattle.content.specs.Trees.{AnyWord, Word, plain, negative, group, WordGroup, empty, parenthesis, bracket, brace, invisible, WordList, none, last, more, WordMembers, no_entry, last_entry, more_entry}
use Rattle.content.specs.Levelled as levelled
use Rattle.content.specs.Levelled.{Content, Shape, Grouped, Items, Entry}
use Rattle.content.specs.Depths.{run_levels, token_levels}
use Rattle.content.specs.Grammar.{content_fits, shape_complete, shape_one}

module _ (h : Parts) (W : ℕ → ℕ → Datum → Type 0) (from : (p q : ℕ) (v : Datum) → W p q v → AnyWord h p q v) where
  list_from : (e p n : ℕ) → Items h W e p n → WordList h e p n
  list_from e p n (levelled.none a b) = none a b
  list_from e p n (levelled.final lt v w c) = last lt v (from p e v w) c
  list_from e p n (levelled.more q pq qe v w comma m rest c) = more q pq qe v (from p q v w) comma m (list_from e (q + 1) m rest) c

  members_from : (e p n : ℕ) → Items h (Entry h W W) e p n → WordMembers h e p n
  members_from e p n (levelled.none a b) = no_entry a b
  members_from e p n (levelled.final lt v (r, pr, re, wk, it, wv) c) = last_entry r pr re v.0 v.1 (from p r v.0 wk) it (from (r + 1) e v.1 wv) c
  members_from e p n (levelled.more q pq qe v (r, pr, rq, wk, it, wv) comma m rest c) =
      more_entry r q pr rq qe v.0 v.1 (from p r v.0 wk) it (from (r + 1) q v.1 wv) comma m (members_from e (q + 1) m rest) c

  group_from : (p first count : ℕ) (d : Delimiter) (v : Datum) → Grouped h W p v first count d → WordGroup h p v first count d
  group_from p first count d v (levelled.empty a b) = empty a b
  group_from p first count d v (levelled.parenthesis some n words c) = parenthesis some n (list_from (first + count) first n words) c
  group_from p first count d v (levelled.bracket n words c) = bracket n (list_from (first + count) first n words) c
  group_from p first count d v (levelled.brace n words c) = brace n (members_from (first + count) first n words) c
  group_from p first count d v (levelled.invisible some w) = invisible some (from first (first + count) v w)

  shape_from : (p q : ℕ) (v : Datum) (t : Token) → Shape h W p q v t → Word h p q v t
  shape_from p q v t (levelled.plain a w) = plain a w
  shape_from p q v t (levelled.negative a b w) = negative a b w
  shape_from p q v t (levelled.group {g} a w) = group a (group_from p g.first g.count g.delimiter v w)

  -- and back, in a body with the levels of L
  module _ (L : ℕ → ℕ → Type 0) (to : (a b p q : ℕ) (v : Datum) → L a b → a ≤ p → p < q → q ≤ b → (w : AnyWord h p q v) → (c : W p q v) × (from p q v c ≡ w)) where
    list_to : (first e p n : ℕ) → L first e → first ≤ p → (ws : WordList h e p n) → (i : Items h W e p n) × (list_from e p n i ≡ ws)
    unfolding list_from
    list_to first e p n l lo (none a b) = (levelled.none a b, refl)
    list_to first e p n l lo (last lt v w c) =
        let (w', same) = to first e p e v l lo lt (omega arith) w in
        (levelled.final lt v w' c, ap (λ x. last lt v x c) same)
    list_to first e p n l lo (more q pq qe v w comma m rest c) =
        let (w', same) = to first e p q v l lo pq (omega arith) w in
        let (rest', others) = list_to first e (q + 1) m l (omega arith) rest in
        (levelled.more q pq qe v w' comma m rest' c, λ i. more q pq qe v (same i) comma m (others i) c)

    members_to : (first e p n : ℕ) → L first e → first ≤ p → (ws : WordMembers h e p n) → (i : Items h (Entry h W W) e p n) × (members_from e p n i ≡ ws)
    unfolding members_from
    members_to first e p n l lo (no_entry a b) = (levelled.none a b, refl)
    members_to first e p n l lo (last_entry r pr re k v wk it wv c) =
        let (k', same_k) = to first e p r k l lo pr (omega arith) wk in
        let (v', same_v) = to first e (r + 1) e v l (omega arith) re (omega arith) wv in
        (levelled.final (omega arith) (k, v) (r, pr, re, k', it, v') c, λ i. last_entry r pr re k v (same_k i) it (same_v i) c)
    members_to first e p n l lo (more_entry r q pr rq qe k v wk it wv comma m rest c) =
        let (k', same_k) = to first e p r k l lo pr (omega arith) wk in
        let (v', same_v) = to first e (r + 1) q v l (omega arith) rq (omega arith) wv in
        let (rest', others) = members_to first e (q + 1) m l (omega arith) rest in
        (levelled.more q (omega arith) qe (k, v) (r, pr, rq, k', it, v') comma m rest' c, λ i. more_entry r q pr rq qe k v (same_k i) it (same_v i) comma m (others i) c)

    group_to : (p first count : ℕ) (d : Delimiter) (v : Datum) → L first (first + count) → (w : WordGroup h p v first count d) → (s : Grouped h W p v first count d) × (group_from p first count d v s ≡ w)
    unfolding group_from
    group_to p first count d v l (empty a b) = (levelled.empty a b, refl)
    group_to p first count d v l (parenthesis some n words c) =
        let (words', same) = list_to first (first + count) first n l (omega arith) words in
        (levelled.parenthesis some n words' c, ap (λ x. parenthesis some n x c) same)
    group_to p first count d v l (bracket n words c) =
        let (words', same) = list_to first (first + count) first n l (omega arith) words in
        (levelled.bracket n words' c, ap (λ x. bracket n x c) same)
    group_to p first count d v l (brace n words c) =
        let (words', same) = members_to first (first + count) first n l (omega arith) words in
        (levelled.brace n words' c, ap (λ x. brace n x c) same)
    group_to p first count d v l (invisible some w) =
        let (w', same) = to first (first + count) first (first + count) v l (omega arith) (omega arith) (omega arith) w in
        (levelled.invisible some w', ap (λ x. invisible some x) same)

    shape_to : (p q : ℕ) (v : Datum) (t : Token) → Inside L t → (w : Word h p q v t) → (s : Shape h W p q v t) × (shape_from p q v t s ≡ w)
    unfolding shape_from
    shape_to p q v t l (plain a w) = (levelled.plain a w, refl)
    shape_to p q v t l (negative a b w) = (levelled.negative a b w, refl)
    shape_to p q v t l (group {g = g} a w) =
        let (w', same) = group_to p g.first g.count g.delimiter v l w in
        (levelled.group a w', ap (λ x. group a x) same)

-- a word with levels is a word
word_from : (n : ℕ) (h : Parts) (p q : ℕ) (v : Datum) → Content n h p q v → AnyWord h p q v
unfolding Content
word_from zero h p q v w = elim w [ ]
word_from (suc n) h p q v w = shape_from h (Content n h) (word_from n h) p q v (token h p) w

-- and a word has the levels of its run
word_to : (n : ℕ) (h : Parts) (a b p q : ℕ) (v : Datum) → Levels n h a b → a ≤ p → p < q → q ≤ b → (w : AnyWord h p q v) → (c : Content n h p q v) × (word_from n h p q v c ≡ w)
unfolding Content Levels word_from
word_to zero h a b p q v l lo lt hi w = absurd (omega arith)
word_to (suc n) h a b p q v l lo lt hi w = shape_to h (Content n h) (word_from n h) (Levels n h) (word_to n h) p q v (token h p) (l p lo (omega arith)) w

word_some : {h : Parts} {p q : ℕ} {v : Datum} {t : Token} → Word h p q v t → p < q
word_some (plain ends _) = omega arith
word_some (negative ends _ _) = omega arith
word_some (group ends _) = omega arith

-- over n levels, which a sheet's runs do not pass
module _ (n : ℕ) (runs : (h : Parts) → Kept limits h → (p e : ℕ) → Levels (suc n) h p e) (inner : (h : Parts) → Kept limits h → (p : ℕ) → Inside (Levels n h) (token h p)) where
  levels_of : (h : Parts) (p q : ℕ) (v : Datum) → Kept limits h → (w : AnyWord h p q v) → (c : Shape h (Content n h) p q v (token h p)) × (shape_from h (Content n h) (word_from n h) p q v (token h p) c ≡ w)
  levels_of h p q v k = shape_to h (Content n h) (word_from n h) (Levels n h) (word_to n h) p q v (token h p) (inner h k p)

  words_exact : Exact (content (suc n)) AnyWord
  unfolding Content word_from
  words_exact = record {
    some = λ h p q v w. word_some w;
    sound = λ h p e last t k run found. word_from (suc n) h p (p + t.count) t.value ((content_fits (suc n) h p e (runs h k p e)).sound p last t (omega arith) run.order found);
    complete = λ h p q e last v k run le w. (content_fits (suc n) h p e (runs h k p e)).complete p q last v (omega arith) (word_some w) le (levels_of h p q v k w).0;
    one = λ h p q v k w x.
        sym (levels_of h p q v k w).1
        ∙ ap (shape_from h (Content n h) (word_from n h) p q v (token h p)) (shape_one h (content n h) (Content n h) (Levels n h) (content_fits n h) p q v (token h p) (inner h k p) (levels_of h p q v k w).0 (levels_of h p q v k x).0)
        ∙ (levels_of h p q v k x).1;
  }

  same_value : (h : Parts) (p q : ℕ) (v u : Datum) → Kept limits h → AnyWord h p q v → AnyWord h p q u → v ≡ u
  same_value h p q v u k w x =
      let a = shape_complete h (content n h) (Content n h) (Levels n h) (content_fits n h) p q q v (token h p) (inner h k p) (omega arith) (levels_of h p q v k w).0 in
      let b = shape_complete h (content n h) (Content n h) (Levels n h) (content_fits n h) p q q u (token h p) (inner h k p) (omega arith) (levels_of h p q u k x).0 in
      let same : ◌≡◌ {A = Taken Datum} (record { count = q - p; value = v }) (record { count = q - p; value = u }) = cc in
      ap (λ (t : Taken Datum). t.value) same

pub any_exact : Exact (content 33) AnyWord
any_exact = words_exact 32 run_levels token_levels

-- a word has one value
pub any_value : (h : Parts) (p q : ℕ) (v u : Datum) → Kept limits h → AnyWord h p q v → AnyWord h p q u → v ≡ u
any_value = same_value 32 run_levels token_levels
