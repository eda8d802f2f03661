-- What is printed: replies in hexadecimal, in lower case, and links that were closed (own).
use Rattle.std.specs.Prelude.{ℕ, List, [], ◌∷◌, ◌++◌, codes}
use Rattle.std.specs.Fmt.{decimal}
use Rattle.hex.specs.Hex.{encode_lower}

-- the line of a reply by a router
abbrev pub reply_line : (router : ℕ) → (reply : List ℕ) → List ℕ
reply_line router reply = codes "reply " ++ (decimal router ++ 32 ∷ (encode_lower reply ++ 10 ∷ []))

-- the line of a router's link that was closed
abbrev pub closed_line : (router : ℕ) → List ℕ
closed_line router = codes "closed " ++ (decimal router ++ 10 ∷ [])
