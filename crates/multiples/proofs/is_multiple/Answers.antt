use Rattle.std.proofs.Common.{true≢false, sym, ap, ◌∙◌, ◌%◌, eqb, leb-true, eq-eqb, ne_eqb}
use Rattle.arith.specs.Cases.{and_elim, by_bool}
use Rattle.arith.specs.Multiples.{multiple_is}
use Rattle.multiples.specs.Powers.{is_power_of_two}
use Rattle.multiples.proofs.laws.PowerLaws.{mask_multiple}
use Rattle.multiples.proofs.is_multiple.Goals as goal

pub mask-requires : goal.mask-requires
unfolding is_power_of_two
mask-requires c = leb-true 1 _ (and_elim _ _ (sym c.is_power_of_two.ensures ∙ c.if-is_power_of_two.true)).0

pub returns-then-is_power_of_two : goal.returns-then-is_power_of_two
returns-then-is_power_of_two c =
    ap (λ m. eqb m 0) c.mask.ensures
    ∙ mask_multiple _ _ (sym c.is_power_of_two.ensures ∙ c.if-is_power_of_two.true)

pub returns-else-is_power_of_two : goal.returns-else-is_power_of_two
returns-else-is_power_of_two c =
    by_bool c.is_multiple_of.result
    (λ t. t ∙ sym (eq-eqb (c.args.n % c.args.size) 0 (c.is_multiple_of.ensures.0 t)) ∙ sym (multiple_is _ _))
    (λ f. f ∙ sym (ne_eqb (c.args.n % c.args.size) 0 (λ e. true≢false (sym (c.is_multiple_of.ensures.1 e) ∙ f))) ∙ sym (multiple_is _ _))
