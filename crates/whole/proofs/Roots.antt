-- Reads at record 0. Assumes nothing.
use Rattle.std.proofs.Common.{◌≡◌, ℕ, zero, suc, ◌<◌, List, length, Ok, Err, sym, subst, inl, ⊎_elim, arith, MatchResult}
use Rattle.std.proofs.lemmas.Bool.{cases_eq}
use Rattle.layout.specs.declared.record.Record.{Record}
use Rattle.layout.specs.Rules.{Parts, limits, Kept, Placed}
use Rattle.sheet.specs.declared.spot.Spot.{Spot}
use Rattle.sheet.specs.Spots.{Run, is_run, rest, at_root}
use Rattle.token_de.specs.Meaning.{Answer, Meaning, Grammar, Exact}
use Rattle.token_de.specs.Reading as reading
use Rattle.token_de.proofs.Trees.{joined}
use Rattle.token_de.proofs.Words.{same_word}
use Rattle.access.specs.Nested.{InTree, self, inside}
use Rattle.access.proofs.Nested.{one_parent}
use Rattle.whole.specs.Wholes.{Covers, RootAccepted, RootRefused}

root_run : (h : Parts) → Run h 0 1
root_run h = record { order = omega arith; within = inl (omega arith) }

module _ {V : Type 0} {m : Meaning V} {w : Grammar V} (exact : Exact m w) (h : Parts) (k : Kept limits h) (t : Spot) where
  -- the word that a read at record 0 took is the whole of it
  accepted : (v : V) → reading.Accepted w h at_root t v → RootAccepted w h v
  unfolding rest is_run
  accepted v a =
      let end : a.end ≡ 1 = omega (arith, exact.some h 0 a.end v a.word, a.inside) in
      let word = subst (λ q. w h 0 q v) end a.word in
      record {
        word = word;
        only = λ u x.
            let same = (same_word exact h 0 1 1 1 u v k (root_run h) (omega arith) (omega arith) x word).1 in
            λ n. (same n, joined (λ n. w h 0 1 (same n)) (exact.one h 0 1 v k) x word n);
      }

  refused : (x : _) → reading.Refused m w h at_root t x → RootRefused m w h x
  unfolding rest is_run
  refused x r = record { none = λ u y. r.none (1, omega arith, u, y); fault = r.fault }

  pub root_cases : (r : Answer V) → MatchResult r (λ v. reading.Accepted w h at_root t v) (λ x. reading.Refused m w h at_root t x) → MatchResult r (RootAccepted w h) (RootRefused m w h)
  root_cases (Ok v) a = accepted v a
  root_cases (Err x) r = refused x r

-- every record of a sheet lies in the tree of record 0
module _ (rs : List Record) (placed : (i : ℕ) → i < length rs → Placed rs i) where
  in_tree : (n i : ℕ) → i < n → i < length rs → InTree rs 0 i
  in_tree zero i lt there = absurd (omega arith)
  in_tree (suc n) i lt there = ⊎_elim
      (λ (z : i ≡ 0). subst (InTree rs 0) (sym z) self)
      (λ (pos : i ≡ 0 → ⊥). let b = (placed i there).inside (omega arith) in inside i b.1 (in_tree n b.0 (omega (arith, b.1.earlier)) (omega (arith, b.1.earlier))))
      (cases_eq i 0)

  pub all_covered : Covers rs
  all_covered = record {
    in_tree = λ i there. in_tree (suc i) i (omega arith) there;
    one_body = λ i pos there. let b = (placed i there).inside pos in (b.0, b.1, λ f other. one_parent rs placed f b.0 i there other b.1);
  }
