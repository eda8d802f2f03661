-- A command has 1 to 16 shards and 1 to 8 routers.
use Rattle.std.specs.Prelude.{◌≡◌, ℕ, ◌≤◌, Bool, true, false, List, [], ◌∷◌, Option, Some, None, IfSome, codes, if◌then◌else◌}
use Rattle.std.specs.Option.{unwrap_or}
use Rattle.std.specs.Str.{bytes_eq}
use Rattle.std.specs.List.{after_first, before_first, position_or_len}
use Rattle.std.specs.Prelude.{length, nat_lt}
use Rattle.std.proofs.Common.{subst, sym, arith}
use Rattle.cluster_service.specs.Arguments.{command_of, named_by, named_with, pipe_by, routers_of, serve_by, shards_of, sim_by}
use Rattle.cluster_service.specs.Numbers.{most_routers, most_shards, number_in, within}
use Rattle.cluster_service.specs.Options.{after_word, assigned, awaited, by_waiting, given_for, is_equals_sign, most_of, name_in, nothing_given, once, options_in, with_value, word_in}
use Rattle.cluster_service.specs.declared.arguments.Command.{Command}
use Rattle.cluster_service.specs.declared.options.Given.{Given}
use Rattle.cluster_service.specs.declared.options.Name.{Name}
use Rattle.cluster_service.specs.declared.options.Name.TheVariants.{Port, Shards, Routers, Sessions}
use Rattle.cluster_service.proofs.Numbers.{within_range}

abbrev IsWithin : (most number : ℕ) → Type 0
IsWithin most number = (1 ≤ number) × (number ≤ most)

-- the numbers of shards and routers that were given are in their ranges
abbrev AreWithin : Option Given → Type 0
AreWithin None = Unit {0}
AreWithin (Some g) = IfSome g.shards (IsWithin most_shards) × IfSome g.routers (IsWithin most_routers)

once_in : (name : Name) (earlier value : Option ℕ) (g : Given) → IfSome value (IsWithin (most_of name)) → AreWithin (Some g)
    → AreWithin (once name earlier value g)
once_in Port None (Some value) g is was = was
once_in Shards None (Some value) g is was = (is, was.1)
once_in Routers None (Some value) g is was = (was.0, is)
once_in Sessions None (Some value) g is was = was
once_in name None None g is was = tt
once_in name (Some earlier) None g is was = tt
once_in name (Some earlier) (Some value) g is was = tt

with_in : (name : Name) (word : List ℕ) (g : Given) → AreWithin (Some g) → AreWithin (with_value name word g)
with_in name word g was =
    once_in name (given_for name g) (within 1 (most_of name) (number_in word)) g (within_range 1 (most_of name) (number_in word)) was

assigned_within : (name : Option Name) (value : List ℕ) (g : Given) → AreWithin (Some g) → AreWithin (assigned name value g)
assigned_within None value g was = tt
assigned_within (Some name) value g was = with_in name value g was

awaited_within : (name : Option Name) (g : Given) → AreWithin (Some g) → AreWithin (awaited name g)
awaited_within None g was = tt
awaited_within (Some name) g was = was

-- of two that are both within
either : (test : Bool) (one two : Option Given) → AreWithin one → AreWithin two → AreWithin (if test then one else two)
either true one two first second = first
either false one two first second = second

word_within : (word : List ℕ) (g : Given) → AreWithin (Some g) → AreWithin (word_in word g)
word_within word g was =
    either (nat_lt (position_or_len is_equals_sign word) (length word))
    (assigned (name_in (before_first is_equals_sign word)) (after_first is_equals_sign word) g) (awaited (name_in word) g)
    (assigned_within (name_in (before_first is_equals_sign word)) (after_first is_equals_sign word) g was) (awaited_within (name_in word) g was)

waited : (name : Option Name) (word : List ℕ) (g : Given) → AreWithin (Some g) → AreWithin (by_waiting name word g)
waited (Some name) word g was = with_in name word g was
waited None word g was = word_within word g was

after : (given : Option Given) (word : List ℕ) → AreWithin given → AreWithin (after_word given word)
after None word was = tt
after (Some g) word was = waited g.waiting word g was

all_within : (given : Option Given) (words : List (List ℕ)) → AreWithin given → AreWithin (options_in given words)
all_within given [] was = was
all_within given (word ∷ words) was = all_within (after_word given word) words (after given word was)

-- COMMANDS

abbrev HasFew : Command → Type 0
HasFew command = IsWithin most_shards (shards_of command) × IsWithin most_routers (routers_of command)

-- the number that was given, or the one that is taken where none was
given_or : (most other : ℕ) (given : Option ℕ) → IfSome given (IsWithin most) → IsWithin most other → IsWithin most (unwrap_or given other)
given_or most other None is default = default
given_or most other (Some n) is default = is

piped : (port routers sessions : Option ℕ) (waiting : Option Name) (shards : ℕ) → IsWithin most_shards shards
    → IfSome (pipe_by port routers sessions waiting shards) HasFew
piped None None None None shards few = (few, (omega arith, omega arith))
piped None None None (Some name) shards few = tt
piped None None (Some sessions) waiting shards few = tt
piped None (Some routers) sessions waiting shards few = tt
piped (Some port) routers sessions waiting shards few = tt

simulated : (port sessions : Option ℕ) (waiting : Option Name) (shards routers : ℕ) → IsWithin most_shards shards → IsWithin most_routers routers
    → IfSome (sim_by port sessions waiting shards routers) HasFew
simulated None None None shards routers few few_routers = (few, few_routers)
simulated None None (Some name) shards routers few few_routers = tt
simulated None (Some sessions) waiting shards routers few few_routers = tt
simulated (Some port) sessions waiting shards routers few few_routers = tt

served : (port sessions : Option ℕ) (waiting : Option Name) (shards routers : ℕ) → IsWithin most_shards shards → IsWithin most_routers routers
    → IfSome (serve_by port sessions waiting shards routers) HasFew
served None sessions waiting shards routers few few_routers = tt
served (Some port) None waiting shards routers few few_routers = tt
served (Some port) (Some sessions) (Some name) shards routers few few_routers = tt
served (Some port) (Some sessions) None shards routers few few_routers = (few, few_routers)

choice : (test : Bool) (one two : Option Command) → IfSome one HasFew → IfSome two HasFew → IfSome (if test then one else two) HasFew
choice true one two first second = first
choice false one two first second = second

named_few : (word : List ℕ) (g : Given) → AreWithin (Some g) → IfSome (named_by word g) HasFew
named_few word g is =
    let one : IsWithin most_routers (unwrap_or g.routers 1) = given_or most_routers 1 g.routers is.1 (omega arith, omega arith) in
    let two : IsWithin most_shards (unwrap_or g.shards 2) = given_or most_shards 2 g.shards is.0 (omega arith, omega arith) in
    choice (bytes_eq word (codes "pipe")) _ _
    (piped g.port g.routers g.sessions g.waiting (unwrap_or g.shards 1) (given_or most_shards 1 g.shards is.0 (omega arith, omega arith)))
    (choice (bytes_eq word (codes "sim")) _ _ (simulated g.port g.sessions g.waiting (unwrap_or g.shards 2) (unwrap_or g.routers 1) two one)
    (choice (bytes_eq word (codes "serve")) _ None (served g.port g.sessions g.waiting (unwrap_or g.shards 2) (unwrap_or g.routers 1) two one) tt))

with_options : (word : List ℕ) (given : Option Given) → AreWithin given → IfSome (named_with word given) HasFew
with_options word None is = tt
with_options word (Some g) is = named_few word g is

few_nodes : (words : List (List ℕ)) → IfSome (command_of words) HasFew
few_nodes [] = tt
few_nodes (word ∷ words) = with_options word (options_in (Some nothing_given) words) (all_within (Some nothing_given) words (tt, tt))

-- what follows of a command that was read
pub of_few : (words : List (List ℕ)) (r : Option Command) (P : Command → Type 0) → r ≡ command_of words → ((command : Command) → HasFew command → P command)
    → IfSome r P
of_few words None P is follows = tt
of_few words (Some command) P is follows =
    follows command (subst (λ (o : Option Command). IfSome o HasFew) (sym is) (few_nodes words))
