-- The rules of a sheet bound the levels of its runs. Assumes nothing.
use Rattle.std.specs.Prelude.{◌≡◌, ℕ, zero, suc, ◌+◌, ◌-◌, ◌<◌, ◌≤◌, true, Some, length}
use Rattle.std.proofs.Math.Path.{refl, subst}
use Rattle.std.proofs.Common.{sym, arith}
use Rattle.std.proofs.Math.Logic.{⊎_elim}
use Rattle.std.proofs.lemmas.List.{get_or_past}
use Rattle.std.proofs.lemmas.Bool.{cases_lt, le-ltb}
use Rattle.layout.specs.Rules.{Parts, limits, no_record, entry, group, bodies_end, Depth, top, below, Kept}
use Rattle.layout.proofs.Bodies.{inside_end}
use Rattle.layout.proofs.Scans.{rules_kept, kept_rules}
use Rattle.sheet.specs.declared.token.Group.{Group}
use Rattle.sheet.specs.declared.token.Token.{Token}
use Rattle.sheet.specs.declared.token.Token.TheVariants as tokens
use Rattle.sheet.specs.Tokens.{token, token_of}
use Rattle.sheet.specs.declared.sheet.Sheet.{Sheet}
use Rattle.sheet.specs.Sheets.{held}
use Rattle.sheet.specs.declared.spot.Rest.{Rest}
use Rattle.sheet.specs.Trees.{Seen}
use Rattle.sheet.specs.Inputs.{next_tree}
use Rattle.sheet.proofs.Lines.{line, group_line}
use Rattle.sheet.specs.Spots.{Run}
use Rattle.sheet.proofs.Runs.{run_part, few_records}
use Rattle.content.specs.Levels.{Inside, Levels}

pub sheet_kept : (s : Sheet) → Kept limits (held s)
sheet_kept s = kept_rules limits (held s) s.lawful

pub few : (h : Parts) → Kept limits h → length h.records ≤ 1024
few h k = few_records h (rules_kept limits h k)

pub tail_run : (h : Parts) (p q e : ℕ) → p ≤ q → q ≤ e → Run h p e → Run h q e
tail_run h p q e low high run = run_part h p e q e run low high (omega arith)

pub tail_levels : (n : ℕ) (h : Parts) (p q e : ℕ) → p ≤ q → Levels n h p e → Levels n h q e
unfolding Levels
tail_levels zero h p q e le l = omega arith
tail_levels (suc n) h p q e le l = λ i low high. l i (omega arith) high

-- a run that is not empty has a level, and its groups' bodies have one less
pub some_levels : (n : ℕ) (h : Parts) (p e : ℕ) → Levels n h p e → p < e → 0 < n
unfolding Levels
some_levels zero h p e l lt = omega arith
some_levels (suc n) h p e l lt = omega arith

pub tree_levels : (n : ℕ) (h : Parts) (r : Rest) (s : Seen) → Levels n h r.from r.to → Some s ≡ next_tree h r → 1 ≤ n
tree_levels n h r s l is = ⊎_elim
    (λ (lt : r.from < r.to). some_levels n h r.from r.to l lt)
    (λ (ge : r.to ≤ r.from). absurd (let none = rw (le-ltb r.from r.to ge) at is in cc))
    (cases_lt r.from r.to)

pub body_levels : (n : ℕ) (h : Parts) (p e : ℕ) (g : Group) → Levels n h p e → p < e → tokens.Group g ≡ token h p → Levels (n - 1) h g.first (g.first + g.count)
unfolding Levels
body_levels zero h p e g l lt is = absurd (omega arith)
body_levels (suc n) h p e g l lt is =
    let z : suc n - 1 ≡ n = omega arith in
    rw z (subst (Inside (Levels n h)) (sym is) (l p (omega arith) lt))

module _ (h : Parts) (k : Kept limits h) where
  -- the group of record i, as the rules see it
  as_group : (i : ℕ) (g : Group) → i < length h.records → tokens.Group g ≡ token h i → (group (entry h.records i) ≡ true) × (g.first ≡ (entry h.records i).a) × (g.count ≡ (entry h.records i).b)
  unfolding token
  as_group i g lt is = group_line (length h.names) (length h.strings) (entry h.records i) (line h i (rules_kept limits h k) lt) g is

  -- a group lies before its body, which ends inside the sheet
  pub body_inside : (i : ℕ) (g : Group) → i < length h.records → tokens.Group g ≡ token h i → (i < g.first) × (g.first + g.count ≤ length h.records)
  body_inside i g lt is =
      let r = as_group i g lt is in
      let b = (k.each i lt).placed.body r.0 in
      (omega (arith, r.1, b.0, before i lt), omega (arith, r.1, r.2, b.1))
    where
      before : (i : ℕ) → i < length h.records → i < bodies_end h.records i
      before zero lt = omega arith
      before (suc i) lt = let p = (k.each (suc i) lt).placed.inside (omega arith) in inside_end h.records (suc i) p.0 p.1 (λ j below. (k.each j (omega arith)).placed)

  -- each record has a depth
  has_depth : (n i : ℕ) → i < n → i < length h.records → (d : ℕ) × Depth h.records i d
  has_depth zero i bound lt = absurd (omega arith)
  has_depth (suc n) zero bound lt = (0, top)
  has_depth (suc n) (suc i) bound lt =
      let p = (k.each (suc i) lt).placed.inside (omega arith) in
      let d = has_depth n p.0 (omega (arith, p.1.earlier)) (omega (arith, p.1.earlier)) in
      (suc d.0, below (suc i) p.1 d.1)

  -- a record of a body lies one deeper
  deeper : (i d j : ℕ) (g : Group) → i < length h.records → Depth h.records i d → tokens.Group g ≡ token h i → g.first ≤ j → j < g.first + g.count → Depth h.records j (suc d)
  deeper i d j g lt depth is low high =
      let r = as_group i g lt is in
      let b = body_inside i g lt is in
      below j (record { earlier = omega (arith, b.0); is_group = r.0; from = omega (arith, r.1); upto = omega (arith, r.1, r.2) }) depth

  -- at depth d there are at most n levels below, if d + n is 32 at least
  levels_below : (n d i : ℕ) → 32 ≤ d + n → i < length h.records → Depth h.records i d → (t : Token) → t ≡ token h i → Inside (Levels n h) t
  unfolding Levels
  levels_below n d i enough lt depth (tokens.Ident p) is = tt
  levels_below n d i enough lt depth (tokens.String p) is = tt
  levels_below n d i enough lt depth (tokens.Punct p) is = tt
  levels_below n d i enough lt depth (tokens.Literal l) is = tt
  levels_below zero d i enough lt depth (tokens.Group g) is = ⊎_elim
      (λ (some : g.first < g.first + g.count).
      let b = body_inside i g lt is in
      let s = (k.each g.first (omega (arith, b.1))).shallow (suc d) (deeper i d g.first g lt depth is (omega arith) some) in
      absurd (omega arith))
      (λ (none : g.first + g.count ≤ g.first). none)
      (cases_lt g.first (g.first + g.count))
  levels_below (suc n) d i enough lt depth (tokens.Group g) is = λ j low high.
      let b = body_inside i g lt is in
      levels_below n (suc d) j (omega arith) (omega (arith, b.1)) (deeper i d j g lt depth is low high) (token h j) refl

  past : (i : ℕ) → length h.records ≤ i → Inside (Levels 32 h) (token h i)
  unfolding token
  past i ge = subst (λ r. Inside (Levels 32 h) (token_of r)) (sym (get_or_past h.records i no_record ge)) tt

  -- a group of a sheet has at most 32 levels in it
  pub token_levels : (i : ℕ) → Inside (Levels 32 h) (token h i)
  token_levels i = ⊎_elim
      (λ (lt : i < length h.records). let d = has_depth (suc i) i (omega arith) lt in levels_below 32 d.0 i (omega arith) lt d.1 (token h i) refl)
      (λ (ge : length h.records ≤ i). past i ge)
      (cases_lt i (length h.records))

  -- and a run has one more
  pub run_levels : (p e : ℕ) → Levels 33 h p e
  unfolding Levels
  run_levels p e = λ i low high. token_levels i

pub sheet_levels : (s : Sheet) (p e : ℕ) → Levels 33 (held s) p e
sheet_levels s p e = run_levels (held s) (kept_rules limits (held s) s.lawful) p e
