use Rattle.std.proofs.Common.{arith}
use Rattle.sheet.specs.Sheets.{held}
use Rattle.access.specs.Plain.{key}
use Rattle.access.specs.Talks.{state_of}
use Rattle.access.proofs.Talks.{comes_start, comes_again, comes_end, talked}
use Rattle.access.proofs.drive.calls.drive.Goals as goal

pub loop-turn-init : goal.loop-turn-init
loop-turn-init g c = comes_start g.C.Caller.model g.K.Seed.meaning g.V.Seed.meaning (held c.args.sheet.now) c.args.turns c.args.caller.now (record { turn = key; at = c.args.turn.at })

pub loop-turn-preserved : goal.loop-turn-preserved
loop-turn-preserved g c =
    comes_again g.C.Caller.model g.K.Seed.meaning g.V.Seed.meaning (held c.args.sheet.now) c.args.turns c.loop-turn._turn
    c.loop-turn.caller c.next_call-talk.new.caller _ (state_of c.loop-turn.talk) (state_of c.next_call-talk.result) _
    (omega arith) c.next_call-talk.ensures c.loop-turn.invariant

pub returns : goal.returns
returns g c =
    let e = comes_end g.C.Caller.model g.K.Seed.meaning g.V.Seed.meaning (held c.args.sheet.now) c.args.turns c.loop-turn._turn c.loop-turn.caller _ (state_of c.loop-turn.talk) _ (omega arith) c.loop-turn.invariant in
    talked g.C.Caller.model g.K.Seed.meaning g.V.Seed.meaning (held c.args.sheet.now) g.met.K.Seed.lawful g.met.V.Seed.lawful c.args.turns c.args.caller.now (record { turn = key; at = c.args.turn.at }) c.loop-turn.caller (state_of c.loop-turn.talk) e
