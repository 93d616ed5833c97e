use Rattle.std.proofs.Common.{subst, MatchResult}
use Rattle.layout.specs.Rules.{limits}
use Rattle.layout.proofs.Scans.{kept_rules}
use Rattle.sheet.specs.declared.spot.Spot.{Spot}
use Rattle.sheet.specs.Sheets.{held}
use Rattle.token_de.specs.Reading as reading
use Rattle.whole.proofs.Roots.{root_cases}
use Rattle.whole.proofs.read.read_root.Goals as goal

pub returns : goal.returns
returns g c =
    let h = held c.args.sheet.now in
    let m = g.S.Seed.meaning c.args.seed.now in
    let w = g.S.Words.word c.args.seed.now in
    root_cases (g.met.S.Words.exact c.args.seed.now) h (kept_rules limits h c.args.sheet.now.lawful) c.read.new.self.at c.read.result
    (subst (λ (s : Spot). MatchResult c.read.result (λ v. reading.Accepted w h s c.read.new.self.at v) (λ x. reading.Refused m w h s c.read.new.self.at x)) c.new-cursor.ensures c.read.ensures)
