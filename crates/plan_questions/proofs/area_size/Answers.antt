use Rattle.std.proofs.Common.{rules, ◌∙◌, take, arith}
use Rattle.std.proofs.lemmas.Iterator.{YieldsList-from_slice, YieldsList-from_map}
use Rattle.std.proofs.lemmas.Iterator.Consumers.{sum_by_from_yields_List, fits_by_from_yields_list}
use Rattle.arith.specs.Bounded.{sum_bound}
use Rattle.arith.specs.InLists.{sum_in_list}
use Rattle.plan.specs.Records.{no_sub_area}
use Rattle.plan.specs.Questions.{size_in, sub_area_of}
use Rattle.plan.proofs.laws.SizeLaws.{size_in_few}
use Rattle.plan_questions.proofs.area_size.Goals as goal

pub sum-requires-clause-fits : goal.sum-requires-clause-fits
sum-requires-clause-fits c =
    let a = c.args in
    let few = sum_bound (λ i. size_in a.area (sub_area_of a.sub_areas i)) 16777216 a.count (λ i l. size_in_few a.area _ (c.requires.sizes_bound i l)) in
    let total = sum_in_list no_sub_area a.sub_areas (size_in a.area) a.count (omega arith) in
    fits_by_from_yields_list (size_in a.area) (take a.count a.sub_areas) _ _
    (YieldsList-from_map _ (size_in a.area) (YieldsList-from_slice (take a.count a.sub_areas) (cc)) c.map.ensures.closure (λ x r q k. search rules))
    (omega arith)

pub returns : goal.returns
returns c =
    let a = c.args in
    let few = sum_bound (λ i. size_in a.area (sub_area_of a.sub_areas i)) 16777216 a.count (λ i l. size_in_few a.area _ (c.requires.sizes_bound i l)) in
    let total =
    sum_by_from_yields_List (size_in a.area) (take a.count a.sub_areas) _ c.sum.result c.sum.ensures.ran
    (YieldsList-from_map _ (size_in a.area) (YieldsList-from_slice (take a.count a.sub_areas) (cc)) c.map.ensures.closure (λ x r q k. search rules))
    ∙ sum_in_list no_sub_area a.sub_areas (size_in a.area) a.count (omega arith) in
    (total, omega arith)
