-- The options of the commands: in any order, each at most once, as `--name value` or `--name=value` (own).
use Rattle.std.specs.Prelude.{ℕ, List, [], ◌∷◌, Bool, Option, Some, None, codes, eqb, length, nat_lt, if◌then◌else◌}
use Rattle.std.specs.List.{after_first, before_first, position_or_len}
use Rattle.std.specs.Str.{bytes_eq}
use Rattle.cluster_service.specs.Numbers.{most_routers, most_shards, number_in, within}
use Rattle.cluster_service.specs.declared.options.Given.{Given}
use Rattle.cluster_service.specs.declared.options.Name.{Name}
use Rattle.cluster_service.specs.declared.options.Name.TheVariants.{Port, Shards, Routers, Sessions}

-- the values that words gave up to now, and the option of which the next word is the value
abbrev given_as : (port shards routers sessions : Option ℕ) → (waiting : Option Name) → Given
given_as port shards routers sessions waiting = record { port = port; shards = shards; routers = routers; sessions = sessions; waiting = waiting }

abbrev pub nothing_given : Given
nothing_given = given_as None None None None None

-- each value is at least 1, and at most
abbrev pub most_of : Name → ℕ
most_of Port = 65535
most_of Shards = most_shards
most_of Routers = most_routers
most_of Sessions = 4294967295

abbrev pub given_for : Name → Given → Option ℕ
given_for Port g = g.port
given_for Shards g = g.shards
given_for Routers g = g.routers
given_for Sessions g = g.sessions

abbrev pub set_in : Name → (value : ℕ) → Given → Given
set_in Port value g = given_as (Some value) g.shards g.routers g.sessions None
set_in Shards value g = given_as g.port (Some value) g.routers g.sessions None
set_in Routers value g = given_as g.port g.shards (Some value) g.sessions None
set_in Sessions value g = given_as g.port g.shards g.routers (Some value) None

-- an option gets a value in its range, once
abbrev pub once : Name → (earlier value : Option ℕ) → Given → Option Given
once name None (Some value) g = Some (set_in name value g)
once name earlier value g = None

abbrev pub with_value : Name → (word : List ℕ) → Given → Option Given
with_value name word g = once name (given_for name g) (within 1 (most_of name) (number_in word)) g

-- the option that a word names, and no more
abbrev pub name_in : (word : List ℕ) → Option Name
name_in word =
    if bytes_eq word (codes "--port") then Some Port
    else if bytes_eq word (codes "--shards") then Some Shards
    else if bytes_eq word (codes "--routers") then Some Routers
    else if bytes_eq word (codes "--sessions") then Some Sessions
    else None

-- the option that was named, if one was, has this value
abbrev pub assigned : Option Name → (value : List ℕ) → Given → Option Given
assigned None value g = None
assigned (Some name) value g = with_value name value g

-- or the next word is its value
abbrev pub awaited : Option Name → Given → Option Given
awaited None g = None
awaited (Some name) g = Some (given_as g.port g.shards g.routers g.sessions (Some name))

abbrev pub is_equals_sign : ℕ → Bool
is_equals_sign byte = eqb byte 61

-- An option's name, the first `=` and the option's value; or its name alone.
abbrev pub word_in : (word : List ℕ) → Given → Option Given
word_in word g =
    if nat_lt (position_or_len is_equals_sign word) (length word)
    then assigned (name_in (before_first is_equals_sign word)) (after_first is_equals_sign word) g
    else awaited (name_in word) g

abbrev pub by_waiting : Option Name → (word : List ℕ) → Given → Option Given
by_waiting (Some name) word g = with_value name word g
by_waiting None word g = word_in word g

-- what one word more says, if none was refused
abbrev pub after_word : Option Given → (word : List ℕ) → Option Given
after_word None word = None
after_word (Some g) word = by_waiting g.waiting word g

abbrev pub options_in : Option Given → List (List ℕ) → Option Given
options_in given [] = given
options_in given (word ∷ words) = options_in (after_word given word) words
