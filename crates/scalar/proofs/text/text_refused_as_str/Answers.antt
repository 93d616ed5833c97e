use Rattle.std.proofs.Common.{◌≡◌, ℕ, Ok, refl, arith}
use Rattle.std.proofs.lemmas.Bool.Decides.{nat_tests}
use Rattle.std.specs.Option.{ok_or}
use Rattle.layout.specs.Rules.{Parts, limits}
use Rattle.layout.proofs.Scans.{rules_kept}
use Rattle.sheet.specs.declared.token.Token.{Token}
use Rattle.sheet.specs.declared.token.Token.TheVariants as tokens
use Rattle.sheet.specs.Spots.{rest}
use Rattle.sheet.specs.Tokens.{token}
use Rattle.sheet.specs.Trees.{text_of}
use Rattle.sheet.proofs.Runs.{rest_inside}
use Rattle.token_de.specs.declared.fault.Fault.TheVariants.{Wrong}
use Rattle.token_de.specs.declared.fault.Wanted.TheVariants as wanted
use Rattle.token_de.specs.declared.seed.Taken.{Taken}
use Rattle.token_de.specs.Cursors.{text_read}
use Rattle.token_de.specs.Steps.{◌then◌}
use Rattle.scalar.specs.declared.text.TextPart.{TextPart}
use Rattle.scalar.specs.Texts.{string_of, refusal, TextRefusedAsString}
use Rattle.scalar.proofs.text.text_refused_as_str.Goals as goal

-- of one token
same : (h : Parts) (p : ℕ) (t : Token) →
    refusal (ok_or (text_of h t) (Wrong wanted.String p)) ≡ refusal {X = Taken TextPart} (ok_or (string_of h t) (Wrong wanted.String p) then (λ v. Ok (record { count = 1; value = v })))
same h p (tokens.Ident x) = refl
same h p (tokens.String x) = refl
same h p _ = refl

law : TextRefusedAsString
unfolding text_read
law h s k =
    let fits = rest_inside h s (rules_kept limits h k) in
    let is = same h (rest h s).from (token h (rest h s).from) in
    grind (arith, nat_tests)

pub returns : goal.returns
returns c = law
