-- Content by the tree that it begins with. Assumes nothing.
use Rattle.std.proofs.Common.{◌≡◌, ℕ, ◌+◌, ◌-◌, ◌<◌, Bool, ltb, List, Some, None, Ok, Err, sym, refl, ap, ◌∙◌, subst, arith}
use Rattle.std.proofs.lemmas.Bool.{ltb-true, ltb-false}
use Rattle.layout.specs.Rules.{Parts}
use Rattle.sheet.specs.declared.input.Input.{Input}
use Rattle.sheet.specs.declared.spot.Body.{Body}
use Rattle.sheet.specs.declared.spot.Rest.{Rest}
use Rattle.layout.specs.declared.kind.Delimiter.{Delimiter}
use Rattle.sheet.specs.declared.token.Group.{Group}
use Rattle.sheet.specs.declared.token.Literal.{Literal}
use Rattle.sheet.specs.declared.token.Part.{Part}
use Rattle.sheet.specs.declared.token.Punct.{Punct}
use Rattle.sheet.specs.declared.token.Token.{Token}
use Rattle.sheet.specs.declared.token.Token.TheVariants as tokens
use Rattle.sheet.specs.Sheets.{held}
use Rattle.sheet.specs.Spots.{at_body, body_of, rest}
use Rattle.sheet.specs.Tokens.{token, bytes_of}
use Rattle.sheet.specs.Trees.{Seen, ident, string, punct, literal, group, tree_of}
use Rattle.sheet.specs.Inputs.{next_tree}
use Rattle.sheet.proofs.Inputs.{rest_fits}
use Rattle.sheet.proofs.Lines.{body_rest}
use Rattle.token_de.specs.declared.fault.Fault.TheVariants.{Wrong}
use Rattle.token_de.specs.declared.fault.Wanted.TheVariants as wanted
use Rattle.token_de.specs.Meaning.{Answer, on}
use Rattle.token_de.specs.Steps.{◌then◌}
use Rattle.token_de.proofs.Trees.{tree_left}
use Rattle.std.specs.Option.{ok_or}
use Rattle.scalar.specs.declared.text.TextPart.{TextPart}
use Rattle.scalar.specs.Bools.{truth}
use Rattle.scalar.specs.Texts.{string_of, string_read}
use Rattle.content.specs.declared.datum.Datum.TheVariants as datum
use Rattle.content.specs.Levels.{Levels}
use Rattle.content.specs.Contents.{content, from_token, from_punct, from_group, literal_value, named, none_left, taken, text_value}
use Rattle.content.specs.Depths.{body_levels}
use Rattle.content.specs.Steps.{content_at, content_end}
use Rattle.content.proofs.Rests.{given, missing}

-- which token the tree of record p is of
abbrev Of : Parts → ℕ → Seen → Token → Type 0
Of h p (ident x) t = (k : Part) × (t ≡ tokens.Ident k) × (x ≡ bytes_of h.names k)
Of h p (string x) t = (k : Part) × (t ≡ tokens.String k)
Of h p (punct k) t = t ≡ tokens.Punct k
Of h p (literal l) t = t ≡ tokens.Literal l
Of h p (group d b) t = (g : Group) × (t ≡ tokens.Group g) × (d ≡ g.delimiter) × (b ≡ body_of p g)

of : (h : Parts) (p : ℕ) (t : Token) → Of h p (tree_of h p t) t
of h p (tokens.Ident k) = (k, refl, refl)
of h p (tokens.String k) = (k, refl)
of h p (tokens.Punct k) = refl
of h p (tokens.Literal l) = refl
of h p (tokens.Group g) = (g, refl, refl, refl)

-- where a tree is next, its token is left
left : (h : Parts) (r : Rest) (s : Seen) → Some s ≡ next_tree h r → (r.from < r.to) × Of h r.from s (token h r.from)
left h r s is =
    let (some, same) = given (ltb r.from r.to) (tree_of h r.from (token h r.from)) s is in
    (ltb-true r.from r.to some, subst (λ x. Of h r.from x (token h r.from)) (sym same) (of h r.from (token h r.from)))

module _ (depth : ℕ) (x : Input) (levels : Levels depth (held x.sheet) x.rest.from x.rest.to) where
  read : x.rest.from < x.rest.to → (t : Token) → token (held x.sheet) x.rest.from ≡ t → on (content depth) x ≡ from_token (held x.sheet) (content (depth - 1) (held x.sheet)) x.rest.from x.rest.to t
  read lt t is = content_at depth (held x.sheet) x.rest.from x.rest.to x.rest.last levels lt t (sym is)

  -- a text, which the token t is
  texts : x.rest.from < x.rest.to → (t : Token) → token (held x.sheet) x.rest.from ≡ t → (on string_read x then text_value) ≡ (ok_or (string_of (held x.sheet) t) (Wrong wanted.String x.rest.from) then (λ v. taken 1 (datum.Text v)))
  texts lt t is =
      let h = held x.sheet in
      let fits = rest_fits h x.rest x.sheet.lawful x.run in
      rw (tree_left wanted.String (λ h p t. ok_or (string_of h t) (Wrong wanted.String p)) h x.rest.from x.rest.to x.rest.last lt (omega arith), is) (flat (ok_or (string_of h t) (Wrong wanted.String x.rest.from)))
    where
      flat : (r : Answer TextPart) → (r then (λ v. taken 1 v)) then text_value ≡ r then (λ v. taken 1 (datum.Text v))
      flat (Ok v) = refl
      flat (Err f) = refl

  pub truth_is : (name : List ℕ) (b : Bool) → Some (ident name) ≡ next_tree (held x.sheet) x.rest → Some b ≡ truth name → taken 1 (datum.Bool b) ≡ on (content depth) x
  truth_is name b is spells =
      let (lt, k) = left (held x.sheet) x.rest (ident name) is in
      sym (read lt (tokens.Ident k.0) k.1 ∙ ap (λ o. taken 1 (named o k.0)) (ap truth (sym k.2) ∙ sym spells))

  pub name_is : (name : List ℕ) → Some (ident name) ≡ next_tree (held x.sheet) x.rest → None ≡ truth name → (on string_read x then text_value) ≡ on (content depth) x
  name_is name is none =
      let (lt, k) = left (held x.sheet) x.rest (ident name) is in
      texts lt (tokens.Ident k.0) k.1 ∙ sym (read lt (tokens.Ident k.0) k.1 ∙ ap (λ o. taken 1 (named o k.0)) (ap truth (sym k.2) ∙ sym none))

  pub string_is : (s : List ℕ) → Some (string s) ≡ next_tree (held x.sheet) x.rest → (on string_read x then text_value) ≡ on (content depth) x
  string_is s is =
      let (lt, k) = left (held x.sheet) x.rest (string s) is in
      texts lt (tokens.String k.0) k.1 ∙ sym (read lt (tokens.String k.0) k.1)

  pub punct_is : (k : Punct) → Some (punct k) ≡ next_tree (held x.sheet) x.rest → from_punct (held x.sheet) x.rest.from x.rest.to k ≡ on (content depth) x
  punct_is k is = let (lt, it) = left (held x.sheet) x.rest (punct k) is in sym (read lt (tokens.Punct k) it)

  pub literal_is : (l : Literal) → Some (literal l) ≡ next_tree (held x.sheet) x.rest → (literal_value l x.rest.from then (λ v. taken 1 v)) ≡ on (content depth) x
  literal_is l is = let (lt, it) = left (held x.sheet) x.rest (literal l) is in sym (read lt (tokens.Literal l) it)

  pub none_is : None ≡ next_tree (held x.sheet) x.rest → none_left x.rest.last ≡ on (content depth) x
  none_is is = sym (content_end depth (held x.sheet) x.rest.from x.rest.to x.rest.last (ltb-false x.rest.from x.rest.to (missing (ltb x.rest.from x.rest.to) (tree_of (held x.sheet) x.rest.from (token (held x.sheet) x.rest.from)) is)))

  -- a group, whose body is y
  module _ (d : Delimiter) (b : Body) (is : Some (group d b) ≡ next_tree (held x.sheet) x.rest) (y : Input) (same : y.sheet ≡ x.sheet) (all : y.rest ≡ rest (held x.sheet) (at_body b)) where
    -- what is known of its token g
    record Whole (g : Group) : Type 0 where
      lt : x.rest.from < x.rest.to
      it : token (held x.sheet) x.rest.from ≡ tokens.Group g
      delimiter : d ≡ g.delimiter
      parent : b.parent ≡ x.rest.from
      body : y.rest ≡ record { from = g.first; to = g.first + g.count; last = None }

    whole : (g : Group) × Whole g
    whole =
        let (lt, g) = left (held x.sheet) x.rest (group d b) is in
        let fits = rest_fits (held x.sheet) x.rest x.sheet.lawful x.run in (
          g.0,
          record {
            lt = lt;
            it = g.1;
            delimiter = g.2;
            parent = ap (λ (z : Body). z.parent) g.3;
            body = all ∙ ap (λ (z : Body). rest (held x.sheet) (at_body z)) g.3 ∙ body_rest (held x.sheet) x.rest.from x.sheet.lawful (omega arith) g.0 (sym g.1);
          },
        )

    pub levels_in : Levels (depth - 1) (held y.sheet) y.rest.from y.rest.to
    levels_in =
        let (g, w) = whole in
        rw (same, w.body) (body_levels depth (held x.sheet) x.rest.from x.rest.to g levels w.lt (sym w.it))

    pub group_is : from_group (held y.sheet) (content (depth - 1) (held y.sheet)) b.parent y.rest.from (y.rest.to - y.rest.from) d ≡ on (content depth) x
    group_is =
        let (g, w) = whole in
        let count : g.first + g.count - g.first ≡ g.count = omega arith in
        let m = content (depth - 1) (held x.sheet) in
        rw (same, w.body, count) (ap (λ i. from_group (held x.sheet) m i g.first g.count d) w.parent ∙ ap (λ e. from_group (held x.sheet) m x.rest.from g.first g.count e) w.delimiter ∙ sym (read w.lt (tokens.Group g) w.it))

-- what is read by each tree
pub ruleset each_tree = (truth_is, name_is, string_is, punct_is, literal_is, none_is, levels_in, group_is)
