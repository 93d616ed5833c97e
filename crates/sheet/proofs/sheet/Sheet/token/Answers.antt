use Rattle.std.proofs.Common.{◌≡◌, ◌<◌, length, subst, rules}
use Rattle.layout.specs.declared.record.Record.{Record}
use Rattle.layout.specs.Rules.{entry}
use Rattle.sheet.specs.Sheets.{held}
use Rattle.sheet.specs.Tokens.{scalar_char, token}
use Rattle.sheet.proofs.Lines.{char_fits}
use Rattle.sheet.proofs.sheet.Sheet.token.Goals as goal

pub token_of-requires : goal.token_of-requires
token_of-requires c =
    let h = held c.args.self.now in
    let there : c.args.at < length h.records = search rules in
    let is : entry h.records c.args.at ≡ c.in_ok-record.record.now = search rules in
    subst (λ (r : Record). r.kind ≡ 2 → scalar_char r) is (char_fits h c.args.at c.args.self.now.lawful there)

pub returns : goal.returns
unfolding token
returns c = search rules
