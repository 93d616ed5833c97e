use Rattle.std.proofs.Common.{sym, ◌∙◌, ap, arith, Some}
use Rattle.sheet.specs.declared.token.Token.{Token}
use Rattle.sheet.specs.Sheets.{held}
use Rattle.sheet.proofs.Lines.{body_there}
use Rattle.sheet.proofs.sheet.Sheet.tree.Goals as goal

pub new-requires : goal.new-requires
new-requires c = omega (
  arith,
  body_there (held c.args.self.now) c.args.at c.args.self.now.lawful c.in-Group.group
      (ap (λ (t : Token). Some t) (sym c.in-Group.is) ∙ sym c.in_ok-part.was ∙ c.token.ensures),
)
