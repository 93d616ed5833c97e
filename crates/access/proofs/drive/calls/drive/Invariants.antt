use Rattle.std.proofs.Common.{◌-◌}
use Rattle.sheet.specs.Sheets.{held}
use Rattle.access.specs.Talks.{state_of, talk, Leaves}
use Rattle.access.proofs.drive.calls.drive.Given as goal

-- the talk from here on leaves the caller and the list as the whole talk does
abbrev pub invariant-loop-turn : goal.invariant-loop-turn
invariant-loop-turn g l =
    let turns = talk g.C.Caller.model g.K.Seed.meaning g.V.Seed.meaning (held l.sheet) in
    let whole = turns l.turns l.initial.caller (state_of l.initial.talk) in
    Leaves (turns (l.turns - l._turn) l.caller (state_of l.talk)) whole.caller whole.list
