-- The loops over a list body and a member body. Assumes nothing.
use Rattle.std.proofs.Common.{◌≡◌, Bool, true, ℕ, ◌+◌, ◌-◌, ◌<◌, ◌≤◌, is_some, Some, None, Ok, Err, Option, sym, ap, ◌∙◌, arith}
use Rattle.std.proofs.lemmas.Bool.{ne_eqb}
use Rattle.sheet.specs.declared.input.Input.{Input}
use Rattle.sheet.specs.declared.spot.Rest.{Rest}
use Rattle.sheet.specs.Sheets.{held}
use Rattle.layout.specs.declared.kind.Delimiter.TheVariants.{Invisible}
use Rattle.sheet.specs.Inputs.{behind, first as next_record}
use Rattle.token_de.specs.declared.seed.Taken.{Taken}
use Rattle.token_de.specs.declared.fault.Fault.{Fault}
use Rattle.token_de.specs.Meaning.{Answer, Meaning, on}
use Rattle.token_de.specs.Steps.{◌then◌}
use Rattle.content.specs.declared.datum.Datum.{Datum}
use Rattle.content.specs.Levels.{Levels}
use Rattle.content.specs.Bodies.{passed, after, items, body, equals, entry, PastComma, NoComma, PastEquals, NotEquals}
use Rattle.content.specs.Contents.{content, from_group, alone}
use Rattle.content.specs.Depths.{tail_levels}
use Rattle.content.specs.Turns.{after_within, turn, equals_at}
use Rattle.content.specs.Steps.{content_in, content_any}
use Rattle.content.proofs.Rests.{some_left, not_none}

-- entries of content and content
abbrev pub entries : ℕ → Meaning (Datum × Datum)
entries depth h = entry h (content depth h) (content depth h)

-- what the reads m answer of an input that is a body
abbrev pub answer : {V : Type 0} → Meaning V → Input → Answer ℕ
answer m x = body (held x.sheet) (m (held x.sheet)) x.rest.from x.rest.to

-- x is left of a body from first on, of which r is answered, after n words
pub record Left {V : Type 0} (m : Meaning V) (depth first : ℕ) (r : Answer ℕ) (x : Input) (n : ℕ) : Type 0 where
  pub turns : ℕ
  pub enough : x.rest.to - x.rest.from ≤ turns
  pub counted : n ≤ x.rest.from
  pub levels : Levels depth (held x.sheet) x.rest.from x.rest.to
  pub same : items (held x.sheet) (m (held x.sheet)) turns first x.rest.from x.rest.to n ≡ r

-- z is left of x behind n trees
pub record Behind (x : Input) (n : ℕ) (z : Input) : Type 0 where
  pub sheet : z.sheet ≡ x.sheet
  pub from : z.rest.from ≡ x.rest.from + n
  pub to : z.rest.to ≡ x.rest.to

pub behind_is : (x z : Input) (n : ℕ) → x.rest.from + n ≤ x.rest.to → z.sheet ≡ x.sheet → z.rest ≡ behind x.rest n → Behind x n z
behind_is x z n fits sheet rest = record {
  sheet = sheet;
  from = let from : z.rest.from ≡ (behind x.rest n).from = ap (λ (r : Rest). r.from) rest in omega arith;
  to = ap (λ (r : Rest). r.to) rest;
}

-- a turn over x, whose first word does not hang on what was passed before
module _ {V : Type 0} (m : Meaning V) (depth : ℕ) {first n : ℕ} {r : Answer ℕ} (x : Input) (l : Left m depth first r x n) (some : x.rest.from < x.rest.to)
    (any : (last : Option ℕ) → on m x ≡ m (held x.sheet) x.rest.from x.rest.to last) where
  here : on m x then (λ u. after (held x.sheet) (x.rest.from + u.count) x.rest.to then (λ q. items (held x.sheet) (m (held x.sheet)) (l.turns - 1) first q x.rest.to (n + 1))) ≡ r
  here = rw (any (passed first x.rest.from)) (sym (turn (held x.sheet) (m (held x.sheet)) first l.turns x.rest.from x.rest.to n some l.enough) ∙ l.same)

  refused : (f : Fault) → Err f ≡ on m x → Err f ≡ r
  refused f no_word = rw (sym no_word) at here

  module _ (u : Taken V) (word : Ok u ≡ on m x) (z : Input) (z_is : Behind x u.count z) where
    then_after : after (held x.sheet) (x.rest.from + u.count) x.rest.to then (λ q. items (held x.sheet) (m (held x.sheet)) (l.turns - 1) first q x.rest.to (n + 1)) ≡ r
    then_after = rw (sym word) at here

    after_is : after (held z.sheet) z.rest.from z.rest.to ≡ after (held x.sheet) (x.rest.from + u.count) x.rest.to
    after_is = rw (z_is.sheet, z_is.from, z_is.to)

    stopped : (f : Fault) → NoComma z f → Err f ≡ r
    stopped f no_comma = rw (sym after_is ∙ no_comma) at then_after

    next : 0 < u.count → x.rest.from + u.count ≤ x.rest.to → (y : Input) → PastComma z y → Left m depth first r y (n + 1)
    next some fits y comma =
        let found = sym after_is ∙ comma.place in
        let a = after_within (held x.sheet) (x.rest.from + u.count) x.rest.to y.rest.from fits found in
        let sheet = comma.sheet ∙ z_is.sheet in
        let to = comma.to ∙ z_is.to in
        record {
          turns = l.turns - 1;
          enough = omega (arith, l.enough);
          counted = omega (arith, l.counted);
          levels = rw (sheet, to) (tail_levels depth (held x.sheet) x.rest.from y.rest.from x.rest.to (omega arith) l.levels);
          same = rw (sheet, to) (rw found at then_after);
        }

-- content is the same whatever was passed before
pub any_word : (depth : ℕ) (x : Input) → Levels depth (held x.sheet) x.rest.from x.rest.to → x.rest.from < x.rest.to → (last : Option ℕ) → on (content depth) x ≡ content depth (held x.sheet) x.rest.from x.rest.to last
any_word depth x l some last = content_any depth (held x.sheet) x.rest.from x.rest.to l some x.rest.last last

pub word_in : (depth : ℕ) (x : Input) (u : Taken Datum) → Ok u ≡ on (content depth) x → (0 < u.count) × (x.rest.from + u.count ≤ x.rest.to)
word_in depth x u word = content_in depth (held x.sheet) x.rest.from x.rest.to x.rest.last u (sym word)

-- a turn over a list body
module _ (depth : ℕ) {first n : ℕ} {r : Answer ℕ} (x : Input) (l : Left (content depth) depth first r x n) {o : Option ℕ} {b : Bool} (is : o ≡ next_record x.rest) (test : b ≡ is_some o) (holds : b ≡ true) where
  some_word : x.rest.from < x.rest.to
  some_word = some_left x.rest o b is test holds

  pub list_refused : (f : Fault) → Err f ≡ on (content depth) x → Err f ≡ r
  list_refused = refused (content depth) depth x l some_word (any_word depth x l.levels some_word)

  module _ (u : Taken Datum) (word : Ok u ≡ on (content depth) x) (z : Input) (sheet : z.sheet ≡ x.sheet) (rest : z.rest ≡ behind x.rest u.count) where
    z_is : Behind x u.count z
    z_is = behind_is x z u.count (word_in depth x u word).1 sheet rest

    pub list_stopped : (f : Fault) → NoComma z f → Err f ≡ r
    list_stopped = stopped (content depth) depth x l some_word (any_word depth x l.levels some_word) u word z z_is

    pub list_next : (y : Input) → PastComma z y → Left (content depth) depth first r y (n + 1)
    list_next = let w = word_in depth x u word in next (content depth) depth x l some_word (any_word depth x l.levels some_word) u word z z_is w.0 w.1

-- a turn over a member body
module _ (depth : ℕ) {first n : ℕ} {r : Answer ℕ} (x : Input) (l : Left (entries depth) depth first r x n) {o : Option ℕ} {b : Bool} (is : o ≡ next_record x.rest) (test : b ≡ is_some o) (holds : b ≡ true) where
  some_entry : x.rest.from < x.rest.to
  some_entry = some_left x.rest o b is test holds

  any_entry : (last : Option ℕ) → on (entries depth) x ≡ entries depth (held x.sheet) x.rest.from x.rest.to last
  any_entry last = rw (any_word depth x l.levels some_entry last)

  no_entry : (f : Fault) → Err f ≡ on (entries depth) x → Err f ≡ r
  no_entry = refused (entries depth) depth x l some_entry any_entry

  pub key_refused : (f : Fault) → Err f ≡ on (content depth) x → Err f ≡ r
  key_refused f none = no_entry f (rw (sym none))

  module _ (k : Taken Datum) (key : Ok k ≡ on (content depth) x) where
    -- where the `=` stands
    key_end : (behind x.rest k.count).from ≡ x.rest.from + k.count
    key_end = let w = word_in depth x k key in omega (arith, w)

    pub equals_refused : (f : Fault) → NotEquals x k.count f → Err f ≡ r
    equals_refused f none = no_entry f (rw (sym key, rw key_end at none))

    module _ (y : Input) (past : PastEquals x k.count y) where
      found : equals (held x.sheet) x.rest.from (x.rest.from + k.count) x.rest.to ≡ Ok past.equals_at
      found = rw key_end at past.place

      place : (past.equals_at ≡ x.rest.from + k.count) × (past.equals_at < x.rest.to)
      place = let e = equals_at (held x.sheet) x.rest.from (x.rest.from + k.count) x.rest.to past.equals_at found in (e.0, e.1)

      read : on (content depth) y ≡ content depth (held x.sheet) (past.equals_at + 1) x.rest.to (Some past.equals_at)
      read = rw (past.sheet, past.rest)

      pub value_levels : Levels depth (held y.sheet) y.rest.from y.rest.to
      value_levels = rw (past.sheet, past.rest) (tail_levels depth (held x.sheet) x.rest.from (past.equals_at + 1) x.rest.to (omega (arith, place)) l.levels)

      pub value_refused : (f : Fault) → Err f ≡ on (content depth) y → Err f ≡ r
      value_refused f none = no_entry f (rw (sym key, found, sym (none ∙ read)))

      module _ (v : Taken Datum) (value : Ok v ≡ on (content depth) y) (z : Input) (sheet : z.sheet ≡ y.sheet) (rest : z.rest ≡ behind y.rest v.count) where
        word : Taken (Datum × Datum)
        word = record { count = k.count + 1 + v.count; value = (k.value, v.value) }

        is_word : Ok word ≡ on (entries depth) x
        unfolding word
        is_word = rw (sym key, found, sym (value ∙ read))

        fits : (0 < word.count) × (x.rest.from + word.count ≤ x.rest.to)
        unfolding word
        fits =
            let w = word_in depth y v value in
            let to = ap (λ (r : Rest). r.to) past.rest in
            let from = ap (λ (r : Rest). r.from) past.rest in
            (omega arith, omega (arith, w, place))

        behind_entry : Behind x word.count z
        unfolding word
        behind_entry =
            let w = word_in depth y v value in
            let b = behind_is y z v.count w.1 sheet rest in
            record {
              sheet = b.sheet ∙ past.sheet;
              from = let from = ap (λ (r : Rest). r.from) past.rest in omega (arith, place, b.from);
              to = b.to ∙ ap (λ (r : Rest). r.to) past.rest;
            }

        pub entry_stopped : (f : Fault) → NoComma z f → Err f ≡ r
        entry_stopped = stopped (entries depth) depth x l some_entry any_entry word is_word z behind_entry

        pub entry_next : (y : Input) → PastComma z y → Left (entries depth) depth first r y (n + 1)
        entry_next = next (entries depth) depth x l some_entry any_entry word is_word z behind_entry fits.0 fits.1

-- a group with no marks, whose body x is not empty
module _ (depth at : ℕ) (x : Input) (levels : Levels depth (held x.sheet) x.rest.from x.rest.to) (some : x.rest.from < x.rest.to) where
  abbrev pub group_is : Answer (Taken Datum) → Type 0
  group_is r = r ≡ from_group (held x.sheet) (content depth (held x.sheet)) at x.rest.from (x.rest.to - x.rest.from) Invisible

  inside : group_is (on (content depth) x then alone x.rest.from (x.rest.to - x.rest.from))
  inside =
      let ne : x.rest.to - x.rest.from ≡ 0 → ⊥ = omega arith in
      let end : x.rest.from + (x.rest.to - x.rest.from) ≡ x.rest.to = omega arith in
      rw (ne_eqb (x.rest.to - x.rest.from) 0 ne, end, any_word depth x levels some None)

  pub no_word : (f : Fault) → Err f ≡ on (content depth) x → group_is (Err f)
  no_word f none = rw (sym none) at inside

  pub one_word : (t : Taken Datum) → Ok t ≡ on (content depth) x → group_is (alone x.rest.from (x.rest.to - x.rest.from) t)
  one_word t word = rw (sym word) at inside

pub ruleset one_alone = (word_in, no_word, one_word, not_none)
