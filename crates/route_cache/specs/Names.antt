-- Tables that are compared and hashed by the names of their collections.
use Rattle.std.specs.Prelude.{◌≡◌, ℕ, List, Bool, true}
use Rattle.std.proofs.Common.{ap, sym, ◌∙◌}
use Rattle.std.specs.Cmp.{IsEquivalence, IsPartialEquivalence, partial_equiv_from_equiv}
use Rattle.std.specs.Cmp.Lexicographic.{bytes_decides, nat_list_eq_equiv}
use Rattle.std.specs.Hash as fed
use Rattle.std.specs.Str.{bytes_eq}
use Rattle.chunk_model.specs.Tables.{Table}

-- one collection has both
abbrev pub same_name : Table → Table → Bool
same_name a b = bytes_eq b.namespace a.namespace

pub names_agree : IsEquivalence same_name
names_agree = record {
  refl = λ x. nat_list_eq_equiv.refl x.namespace;
  symm = λ x y. nat_list_eq_equiv.symm y.namespace x.namespace;
  congr = λ x y z p.
      nat_list_eq_equiv.symm z.namespace x.namespace
      ∙ nat_list_eq_equiv.congr x.namespace y.namespace z.namespace (nat_list_eq_equiv.symm x.namespace y.namespace ∙ p)
      ∙ nat_list_eq_equiv.symm y.namespace z.namespace;
}

pub names_agree_partly : IsPartialEquivalence same_name
names_agree_partly = partial_equiv_from_equiv names_agree

pub name_is_fed : (x y : Table) → same_name x y ≡ true → fed.str x.namespace ≡ fed.str y.namespace
name_is_fed x y e = ap fed.str (sym ((bytes_decides y.namespace x.namespace).0 e))

pub text_is_fed : (q : List ℕ) (t : Table) → bytes_eq t.namespace q ≡ true → fed.str q ≡ fed.str t.namespace
text_is_fed q t e = ap fed.str (sym ((bytes_decides t.namespace q).0 e))

-- a name that is that of a table is that of another where both have one
pub text_of_both : (q : List ℕ) (x y : Table) → bytes_eq x.namespace q ≡ true → bytes_eq y.namespace q ≡ bytes_eq y.namespace x.namespace
text_of_both q x y e = ap (λ (n : List ℕ). bytes_eq y.namespace n) (sym ((bytes_decides x.namespace q).0 e))
