-- What is in a list of clauses or tests is within the whole, and one more comes after the others.
use Rattle.std.proofs.Common.{◌≡◌, ◌≤◌, ◌+◌, get_or, List, [], ◌∷◌, ◌++◌, ap, refl, arith}
use Rattle.std.specs.List.{All}
use Rattle.std.proofs.lemmas.List.Elements.{All-cons}
use Rattle.query_model.specs.Queries as queries
use Rattle.query_model.specs.Queries.{no_clauses, no_tests, no_queries, clause, query, test}
use Rattle.match_expr.specs.declared.tree.Clause.{Clause}
use Rattle.match_expr.specs.declared.tree.Test.{Test}
use Rattle.match_expr.specs.Sizes.{query_size, clause_size, queries_size, tests_size, test_size}
use Rattle.match_expr.specs.View.{clause_of, test_of, queries_before, query_before, tests_before}

pub clauses_inside : (cs : List Clause) → All (λ c. clause_size (clause_of c) ≤ query_size (query_before cs no_clauses)) cs
clauses_inside [] = λ k d l. absurd (omega arith)
clauses_inside (c ∷ cs) =
    All-cons (λ (x : Clause). clause_size (clause_of x) ≤ query_size (query_before (c ∷ cs) no_clauses)) c cs (omega arith)
    (λ k d l. let below : clause_size (clause_of (get_or cs k d)) ≤ query_size (query_before cs no_clauses) = clauses_inside cs k d l in omega arith)

pub tests_inside : (ts : List Test) → All (λ t. test_size (test_of t) ≤ tests_size (tests_before ts no_tests)) ts
tests_inside [] = λ k d l. absurd (omega arith)
tests_inside (t ∷ ts) =
    All-cons (λ (x : Test). test_size (test_of x) ≤ tests_size (tests_before (t ∷ ts) no_tests)) t ts (omega arith)
    (λ k d l. let below : test_size (test_of (get_or ts k d)) ≤ tests_size (tests_before ts no_tests) = tests_inside ts k d l in omega arith)

pub queries_inside : (qs : List queries.Query) → All (λ q. query_size q + 1 ≤ queries_size (queries_before qs no_queries)) qs
queries_inside [] = λ k d l. absurd (omega arith)
queries_inside (q ∷ qs) =
    All-cons (λ (x : queries.Query). query_size x + 1 ≤ queries_size (queries_before (q ∷ qs) no_queries)) q qs (omega arith)
    (λ k d l. let below : query_size (get_or qs k d) + 1 ≤ queries_size (queries_before qs no_queries) = queries_inside qs k d l in omega arith)

pub pushed_clause : (cs : List Clause) (c : Clause) (others : queries.Query) →
    query_before (cs ++ c ∷ []) others ≡ query_before cs (clause (clause_of c) others)
pushed_clause [] c others = refl
pushed_clause (first ∷ cs) c others = ap (λ (q : queries.Query). clause (clause_of first) q) (pushed_clause cs c others)

pub pushed_test : (ts : List Test) (t : Test) (others : queries.Tests) →
    tests_before (ts ++ t ∷ []) others ≡ tests_before ts (test (test_of t) others)
pushed_test [] t others = refl
pushed_test (first ∷ ts) t others = ap (λ (q : queries.Tests). test (test_of first) q) (pushed_test ts t others)

pub pushed_query : (qs : List queries.Query) (q : queries.Query) (others : queries.Queries) →
    queries_before (qs ++ q ∷ []) others ≡ queries_before qs (query q others)
pushed_query [] q others = refl
pushed_query (first ∷ qs) q others = ap (λ (x : queries.Queries). query first x) (pushed_query qs q others)
