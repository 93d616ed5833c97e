-- Content that is passed over. Assumes nothing.
use Rattle.std.specs.Prelude.{◌≡◌, ℕ, ◌-◌, Ok, Option}
use Rattle.std.proofs.Common.{ap, ◌∙◌, ⊎_elim, arith}
use Rattle.layout.specs.Rules.{Parts}
use Rattle.token_de.specs.declared.seed.Taken.{Taken}
use Rattle.token_de.specs.Meaning.{Answer, Lawful, Exact}
use Rattle.token_de.specs.Steps.{◌then◌}
use Rattle.token_de.proofs.Trees.{joined, then_ok, then_err}
use Rattle.content.specs.declared.datum.Datum.{Datum}
use Rattle.content.specs.Contents.{any_read, no_value, ignored_read}
use Rattle.content.specs.Trees.{AnyWord, IgnoredWord}
use Rattle.content.specs.Steps.{content_lawful}
use Rattle.content.specs.TreesLemmas.{any_exact, any_value}

-- what is passed over is what is read
passed_over : (h : Parts) (p e : ℕ) (last : Option ℕ) (t : Taken (Unit {0})) → ignored_read h p e last ≡ Ok t → (v : Datum) × (any_read h p e last ≡ Ok (record { count = t.count; value = v }))
passed_over h p e last t is =
    let (u, read, made) = then_ok (any_read h p e last) no_value t is in
    let same : ◌≡◌ {A = Taken (Unit {0})} (record { count = u.count; value = tt }) t = cc in
    (u.value, read ∙ ap (λ (n : ℕ). Ok (record { count = n; value = u.value })) (ap (λ (x : Taken (Unit {0})). x.count) same))

over : (h : Parts) (p e : ℕ) (last : Option ℕ) (n : ℕ) (v : Datum) → any_read h p e last ≡ Ok (record { count = n; value = v }) → ignored_read h p e last ≡ Ok (record { count = n; value = tt })
over h p e last n v is = ap (λ (r : Answer (Taken Datum)). r then no_value) is

pub ignored_lawful : Lawful ignored_read
ignored_lawful = record {
  within = λ h p e last t k run is. let (v, read) = passed_over h p e last t is in (content_lawful 33).within h p e last (record { count = t.count; value = v }) k run read;
  stable = λ h p e f last before t k run other le is. let (v, read) = passed_over h p e last t is in over h p f before t.count v ((content_lawful 33).stable h p e f last before (record { count = t.count; value = v }) k run other le read);
  refuses = λ h p e last f k run ok is. ⊎_elim
      (λ none. (content_lawful 33).refuses h p e last f k run ok none)
      (λ some. absurd (let z : ◌≡◌ {A = ℕ} 0 1 = cc some.2 in omega arith))
      (then_err (any_read h p e last) no_value f is);
}

pub ignored_exact : Exact ignored_read IgnoredWord
ignored_exact = record {
  some = λ h p q u w. any_exact.some h p q w.0 w.1;
  sound = λ h p e last t k run is. let (v, read) = passed_over h p e last t is in (v, any_exact.sound h p e last (record { count = t.count; value = v }) k run read);
  complete = λ h p q e last u k run le w. over h p e last (q - p) w.0 (any_exact.complete h p q e last w.0 k run le w.1);
  one = λ h p q u k w x.
      let same = any_value h p q w.0 x.0 k w.1 x.1 in
      λ i. (same i, joined (λ i. AnyWord h p q (same i)) (any_exact.one h p q x.0 k) w.1 x.1 i);
}
