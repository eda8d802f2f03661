-- The lines of a script, without their newlines (own).
use Rattle.std.specs.Prelude.{ℕ, List, ◌∷◌, ◌++◌, Option, Some, None, codes}
use Rattle.script_lines.specs.Kinds.{IsKind}
use Rattle.script_lines.specs.Words.{AreNumbers, IsNumber, IsHex}

pub data Line : Type 0 where
  -- the bytes come to a router's link
  client_line : (router : ℕ) → (bytes : List ℕ) → Line
  -- the k-th message, from 0, that was ever sent to the node is delivered
  deliver_line : (node k : ℕ) → Line
  -- the node is given the moment
  moment_line : (node moment : ℕ) → Line
  -- what was not delivered is delivered, except messages of that kind, if there is one
  settle_line : (except : Option (List ℕ)) → Line
  -- the earliest message of the kind that was not delivered is delivered
  next_line : (kind : List ℕ) → Line
  -- the node stops between two steps, and is started again on its journal
  restart_line : (node : ℕ) → Line
  -- the same, but it stops in the step that delivers the k-th message to it, after the records of that step are stored
  kept_line : (node k : ℕ) → Line
  -- or before they are
  lost_line : (node k : ℕ) → Line

-- the bytes say this line
pub data Says : List ℕ → Line → Type 0 where
  says_client : (a b : List ℕ) (router : ℕ) (bytes : List ℕ) → IsNumber a router → IsHex b bytes
      → Says (codes "client" ++ 32 ∷ (a ++ 32 ∷ b)) (client_line router bytes)
  says_deliver : (words : List ℕ) (node k : ℕ) → AreNumbers words node k → Says (codes "deliver" ++ 32 ∷ words) (deliver_line node k)
  says_moment : (words : List ℕ) (node moment : ℕ) → AreNumbers words node moment → Says (codes "moment" ++ 32 ∷ words) (moment_line node moment)
  says_settle : Says (codes "settle") (settle_line None)
  says_except : (kind : List ℕ) → IsKind kind → Says (codes "settle" ++ 32 ∷ (codes "except" ++ 32 ∷ kind)) (settle_line (Some kind))
  says_next : (kind : List ℕ) → IsKind kind → Says (codes "next" ++ 32 ∷ kind) (next_line kind)
  says_restart : (word : List ℕ) (node : ℕ) → IsNumber word node → Says (codes "restart" ++ 32 ∷ word) (restart_line node)
  says_kept : (a b : List ℕ) (node k : ℕ) → IsNumber a node → IsNumber b k
      → Says (codes "restart" ++ 32 ∷ (a ++ 32 ∷ (codes "kept" ++ 32 ∷ b))) (kept_line node k)
  says_lost : (a b : List ℕ) (node k : ℕ) → IsNumber a node → IsNumber b k
      → Says (codes "restart" ++ 32 ∷ (a ++ 32 ∷ (codes "lost" ++ 32 ∷ b))) (lost_line node k)
