-- The words of customers' seeds. Assumes nothing.
use Rattle.std.proofs.Common.{◌≡◌, ◌+◌, ◌-◌, None, Ok, ap, ◌∙◌, arith}
use mathlib.Core.Logic.{∥∥₁_prop}
use mathlib.Core.HLevel.{×₃_prop}
use native.Mathlib.Bridge.{le_prop}
use Rattle.sheet.proofs.Runs.{run_part}
use Rattle.token_de.specs.declared.seed.Taken.{Taken}
use Rattle.token_de.specs.Meaning.{Answer, Meaning, Lawful, Exact}
use Rattle.token_de.specs.Custom.{Whole}
use base.Stored.{Coded-set}
use denote.RattleType.{RattleType}
use Rattle.token_de.specs.contracts.seed.Taken as taken
use Rattle.token_de.specs.contracts.fault.Fault as fault

-- what a seed answers is a set
pub answers_set : (v : RattleType) → IsSet (Answer (Taken v.Denot))
answers_set v = Coded-set (Rattle.std.specs.contracts.result.Result.the_row (taken.the_row v) fault.the_row).coded

pub whole_exact : {V : Type 0} {m : Meaning V} → Lawful m → IsSet (Answer (Taken V)) → Exact m (Whole m)
whole_exact {V} {m} law set = record {
  some = λ h p q v w. w.0;
  sound = λ h p e last t k run is.
      let o = law.within h p e last t k run is in
      let part = run_part h p e p (p + t.count) run (omega arith) (omega arith) o.1 in
      let n : t.count ≡ p + t.count - p = omega arith in
      (omega (arith, o.0), ∣ part ∣₁, law.stable h p e (p + t.count) last None t k run part (omega arith) is ∙ ap (λ n. Ok (record { count = n; value = t.value })) n);
  complete = λ h p q e last v k run le w.
      let part = run_part h p e p q run (omega arith) (omega (arith, w.0)) le in
      law.stable h p q e None last _ k part run (omega (arith, w.0)) w.2;
  one = λ h p q v k. ×₃_prop le_prop ∥∥₁_prop (set _ _);
}
