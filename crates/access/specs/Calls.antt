-- Whole runs of calls on a member list, and what becomes of its tokens. Assumes nothing.
use Rattle.std.specs.Prelude.{◌≡◌, ℕ, ◌+◌, ◌<◌, ◌≤◌, Bool, true, false, ◌&&◌, ◌⊎◌, List, [], ◌∷◌, length, Ok, Err, Option, is_ok, is_some, nat_le, nat_lt}
use Rattle.layout.specs.Rules.{Parts, limits, Kept}
use Rattle.sheet.specs.declared.spot.Spot.{Spot}
use Rattle.sheet.specs.declared.token.Group.{Group}
use Rattle.sheet.specs.declared.token.Punct.{Punct}
use Rattle.sheet.specs.declared.token.Token.TheVariants as tokens
use Rattle.sheet.specs.Tokens.{token}
use Rattle.sheet.specs.Spots.{rest, at_root, at_body, body_of}
use Rattle.token_de.specs.declared.seed.Taken.{Taken}
use Rattle.token_de.specs.Meaning.{Answer, Meaning, Lawful}
use Rattle.access.specs.Nested.{InTree}
use Rattle.access.specs.Plain.{equals_mark, comma, Turn, key, value, over, Step, key_read, value_read, finished}

-- the law is about tokens, so the values of the seeds are left out of it: seeds of all types meet in one run of calls
abbrev pub Erased : Type 0
Erased = Meaning (Unit {0})

-- a list between two calls
pub record State : Type 0 where
  pub turn : Turn
  pub at : Spot

-- a call, with its seed's meaning and its answer
pub data Event : Type 0 where
  key_call : Erased → Answer (Option (Unit {0})) → Event
  value_call : Erased → Answer (Unit {0}) → Event
  finish_call : Answer (Unit {0}) → Event

abbrev pub lands : {V : Type 0} → Step V → State
lands t = record { turn = t.turn; at = t.at }

abbrev pub after : Parts → State → Event → State
after h s (key_call m a) = lands (key_read h m s.at)
after h s (value_call m a) = lands (value_read h m s.at)
after h s (finish_call a) = lands (finished h s.at)

-- the turn allows the call, its seed is lawful, and its answer is the plain list's
abbrev pub Answers : Parts → State → Event → Type 0
Answers h s (key_call m a) = (s.turn ≡ key) × Lawful m × (a ≡ (key_read h m s.at).said)
Answers h s (value_call m a) = (s.turn ≡ value) × Lawful m × (a ≡ (value_read h m s.at).said)
Answers h s (finish_call a) = (s.turn ≡ key) × (a ≡ (finished h s.at).said)

-- a run of calls, the first one first
abbrev pub Calls : Parts → State → List Event → Type 0
Calls h s [] = Unit {0}
Calls h s (e ∷ es) = Answers h s e × Calls h (after h s e) es

abbrev pub finally : Parts → State → List Event → State
finally h s [] = s
finally h s (e ∷ es) = finally h (after h s e) es

-- a key read is accepted if it answers a key
abbrev pub has_key : Answer (Option (Unit {0})) → Bool
has_key (Ok a) = is_some a
has_key (Err f) = false

-- how many trees a seed took
abbrev pub number : Answer (Taken (Unit {0})) → ℕ
number (Ok t) = t.count
number (Err f) = 0

-- and a read: none, unless it was accepted
abbrev pub trees : Answer (Taken (Unit {0})) → Bool → ℕ
trees o true = number o
trees o false = 0

abbrev pub answer_of : Parts → Erased → Spot → Answer (Taken (Unit {0}))
answer_of h m s = m h (rest h s).from (rest h s).to (rest h s).last

abbrev pub taken : Parts → State → Event → ℕ
taken h s (key_call m a) = trees (answer_of h m s.at) (has_key a)
taken h s (value_call m a) = trees (answer_of h m s.at) (is_ok a)
taken h s (finish_call a) = 0

-- whether the call took token k
abbrev pub took : Parts → State → Event → ℕ → Bool
took h s e k = nat_le s.at.place k && nat_lt k (s.at.place + taken h s e)

abbrev pub bit : Bool → ℕ
bit true = 1
bit false = 0

-- how many calls of a run took token k
abbrev pub takers : Parts → State → List Event → ℕ → ℕ
takers h s [] k = 0
takers h s (e ∷ es) k = bit (took h s e k) + takers h (after h s e) es k

-- token k is the one `=` after an accepted key, or the one comma after an accepted value
abbrev pub Follows : Parts → Punct → Spot → Answer (Taken (Unit {0})) → Bool → ℕ → Type 0
Follows h c s o true k = (k ≡ s.place + number o) × (token h k ≡ tokens.Punct c)
Follows h c s o false k = ⊥

abbrev pub Marks : Parts → State → Event → ℕ → Type 0
Marks h s (key_call m a) k = Follows h equals_mark s.at (answer_of h m s.at) (has_key a) k
Marks h s (value_call m a) k = Follows h comma s.at (answer_of h m s.at) (is_ok a) k
Marks h s (finish_call a) k = ⊥

abbrev pub Marked : Parts → State → List Event → ℕ → Type 0
Marked h s [] k = ⊥
Marked h s (e ∷ es) k = Marks h s e k ⊎ Marked h (after h s e) es k

-- what a run of calls does with the tokens
pub record Accounted (h : Parts) (s : State) (log : List Event) : Type 0 where
  -- no token is taken by two accepted reads
  pub once : (k : ℕ) → takers h s log k ≤ 1
  -- a token passed is taken, or it is the `=` after a key or the comma after a value
  pub passed : (k : ℕ) → s.at.place ≤ k → k < (finally h s log).at.place → (takers h s log k ≡ 1) ⊎ ((takers h s log k ≡ 0) × Marked h s log k)
  -- no other token is taken
  pub others : (k : ℕ) → (k < s.at.place) ⊎ ((finally h s log).at.place ≤ k) → takers h s log k ≡ 0
  -- once a finish is accepted every token has been passed
  pub whole : (finally h s log).turn ≡ over → (finally h s log).at.place ≡ s.at.end

-- a list as it begins: on record 0, or on the whole body of a group
abbrev pub Begins : Parts → State → Type 0
Begins h s = (s.turn ≡ key) × ((s.at ≡ at_root) ⊎ ((i : ℕ) × (g : Group) × (i < length h.records) × (token h i ≡ tokens.Group g) × (s.at ≡ at_body (body_of i g))))

-- the law over runs of calls
pub record ListLaw : Type 0 where
  pub runs : (h : Parts) (s : State) (log : List Event) → Kept limits h → Begins h s → Calls h s log → Accounted h s log
  -- a tree is taken with its bodies: a record inside one tree of the run is inside no other
  pub apart : (h : Parts) (s : State) (i k l : ℕ) → Kept limits h → Begins h s → i < length h.records → s.at.first ≤ k → k < s.at.end → s.at.first ≤ l → l < s.at.end →
      InTree h.records k i → InTree h.records l i → k ≡ l
