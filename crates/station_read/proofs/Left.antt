-- Passing a tree leaves fewer of them. Assumes nothing.
use Rattle.std.proofs.Common.{◌≡◌, ℕ, ◌<◌, true, Some, None, Option, is_some, arith}
use Rattle.std.proofs.lemmas.Bool.Decides.{nat_tests}
use Rattle.layout.specs.Rules.{Parts}
use Rattle.sheet.specs.declared.spot.Spot.{Spot}
use Rattle.sheet.specs.declared.tree.Tree.{Tree}
use Rattle.sheet.specs.Spots.{rest, is_run}
use Rattle.sheet.specs.Trees.{Seen, seen}
use Rattle.token_de.specs.Cursors.{peeked, peek_shown, passed_one}
use Rattle.station_read.specs.Left.{left}

module _ (h : Parts) (s : Spot) where
  shown_left : (x : ℕ × Seen) → Some x ≡ peeked h s → 0 < left h s
  unfolding peeked
  shown_left x is = grind (arith, nat_tests)

  -- a peek shows a tree
  pub peek_left : (o : Option (ℕ × Tree)) → is_some o ≡ true → peek_shown o ≡ peeked h s → 0 < left h s
  peek_left (Some x) there is = shown_left (x.0, seen x.1) is
  peek_left None there is = absurd (let z : ◌≡◌ {A = ℕ} 0 1 = cc in omega arith)

  fewer : 0 < left h s → left h (passed_one h s) < left h s
  unfolding rest passed_one is_run
  fewer more = grind (arith, nat_tests)

  -- a call of next passes a tree, or finds none
  module _ (t : Spot) (passes : t ≡ passed_one h s) where
    pub some_passed : (x : ℕ × Seen) → Some x ≡ peeked h s → left h t < left h s
    some_passed x is = rw passes (fewer (shown_left x is))

    pub none_passed : None ≡ peeked h s → left h t ≡ 0
    unfolding peeked passed_one
    none_passed is = rw passes (grind (arith, nat_tests))
