-- The calls that a caller makes on a member list, by what it chooses and what it is told. Assumes nothing.
use Rattle.std.specs.Prelude.{◌≡◌, ℕ, zero, suc, List, [], ◌∷◌, ◌++◌, Some, None, Option}
use Rattle.std.specs.Option.{option_map}
use Rattle.std.specs.Result.{result_map_both}
use Rattle.layout.specs.Rules.{Parts, limits, Kept}
use Rattle.sheet.specs.declared.spot.Spot.{Spot}
use Rattle.token_de.specs.declared.seed.Taken.{Taken}
use Rattle.token_de.specs.Meaning.{Answer, Meaning}
use Rattle.access.specs.declared.drive.KeyMove.{KeyMove}
use Rattle.access.specs.declared.drive.KeyMove.TheVariants as at_key
use Rattle.access.specs.declared.drive.Talk.{Talk}
use Rattle.access.specs.declared.drive.Talk.TheVariants as talks
use Rattle.access.specs.Plain.{Turn, key, value, over, key_read, value_read, finished}
use Rattle.access.specs.Calls.{Erased, State, lands, Event, key_call, value_call, finish_call, Calls, Begins, Accounted}

-- an answer with its value changed
abbrev pub answer_map : {V W : Type 0} → (V → W) → Answer V → Answer W
answer_map g a = result_map_both g (λ f. f) a

-- a seed's meaning, and a call's answer, without the values
abbrev pub forget : {V : Type 0} → Answer (Taken V) → Answer (Taken (Unit {0}))
forget a = answer_map (λ t. record { count = t.count; value = tt }) a

abbrev pub erased : {V : Type 0} → Meaning V → Erased
erased m h p e last = forget (m h p e last)

abbrev pub key_only : {V : Type 0} → Answer (Option V) → Answer (Option (Unit {0}))
key_only a = answer_map (λ o. option_map (λ _. tt) o) a

abbrev pub value_only : {V : Type 0} → Answer V → Answer (Unit {0})
value_only a = answer_map (λ _. tt) a

-- the list between two calls
abbrev pub state_of : Talk → State
state_of (talks.Key t) = record { turn = key; at = t.at }
state_of (talks.Value t) = record { turn = value; at = t.at }
state_of (talks.Over s) = record { turn = over; at = s }

-- a caller: what it chooses at a key turn and at a value turn, and what it becomes by what it hears
pub record Model (C K V X Y : Type 0) : Type 0 where
  pub asks : C → KeyMove K
  pub reads : C → Option V
  pub told_key : C → Answer (Option X) → C
  pub told_value : C → Answer Y → C
  pub told_finish : C → Answer (Unit {0}) → C

-- the caller and the list after a turn, and the call that was made
pub record After (C : Type 0) : Type 0 where
  pub caller : C
  pub list : State
  pub made : List Event

-- a turn, or so many, leaves the caller c and the list s
abbrev pub Leaves : {C : Type 0} → After C → C → State → Type 0
Leaves a c s = (c ≡ a.caller) × (s ≡ a.list)

module _ {C K V X Y : Type 0} (d : Model C K V X Y) (keys : K → Meaning X) (values : V → Meaning Y) (h : Parts) where
  abbrev pub key_after : C → Spot → KeyMove K → After C
  key_after c s (at_key.Read k) = let t = key_read h (keys k) s in
      record { caller = d.told_key c t.said; list = lands t; made = key_call (erased (keys k)) (key_only t.said) ∷ [] }
  key_after c s at_key.Finish = let t = finished h s in
      record { caller = d.told_finish c t.said; list = lands t; made = finish_call t.said ∷ [] }
  key_after c s at_key.Stop = record { caller = c; list = record { turn = key; at = s }; made = [] }

  abbrev pub value_after : C → Spot → Option V → After C
  value_after c s (Some v) = let t = value_read h (values v) s in
      record { caller = d.told_value c t.said; list = lands t; made = value_call (erased (values v)) (value_only t.said) ∷ [] }
  value_after c s None = record { caller = c; list = record { turn = value; at = s }; made = [] }

  -- one turn: the call that the caller chooses, or none
  abbrev pub call_at : C → Turn → Spot → After C
  call_at c key s = key_after c s (d.asks c)
  call_at c value s = value_after c s (d.reads c)
  call_at c over s = record { caller = c; list = record { turn = over; at = s }; made = [] }

  abbrev pub turn_after : C → State → After C
  turn_after c s = call_at c s.turn s.at

  -- so many turns: the caller and the list at the end, and the calls that were made, the first one first
  unfoldable pub talk : ℕ → C → State → After C
  talk zero c s = record { caller = c; list = s; made = [] }
  talk (suc n) c s = let a = turn_after c s in let b = talk n a.caller a.list in record { caller = b.caller; list = b.list; made = a.made ++ b.made }

  -- what a talk comes to: its calls are those of the plain list, and the law holds of them
  pub record Talked (n : ℕ) (c : C) (s : State) (at_end : C) (list : State) : Type 0 where
    pub caller : at_end ≡ (talk n c s).caller
    pub stands : list ≡ (talk n c s).list
    pub calls : Kept limits h → s.turn ≡ key → Calls h s (talk n c s).made
    pub law : Kept limits h → Begins h s → Accounted h s (talk n c s).made
