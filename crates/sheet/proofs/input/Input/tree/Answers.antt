use Rattle.std.proofs.Common.{sym, ◌∙◌}
use Rattle.sheet.specs.Sheets.{held}
use Rattle.sheet.specs.Tokens.{token}
use Rattle.sheet.specs.Trees.{tree_of}
use Rattle.sheet.proofs.Inputs.{left_is}
use Rattle.sheet.proofs.input.Input.tree.Goals as goal

pub returns : goal.returns
returns c =
    let x = c.args.self.now in
    c.tree.ensures ∙ left_is (held x.sheet) x.rest x.sheet.lawful x.run (λ i. tree_of (held x.sheet) i (token (held x.sheet) i)) _ (sym c.in_ok-first.was ∙ c.first.ensures)
