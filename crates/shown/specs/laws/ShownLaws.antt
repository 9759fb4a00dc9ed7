-- The line of a round, device by device.
use Rattle.std.specs.Prelude.{ℕ, ◌+◌, ◌≡◌, List, [], ◌∷◌, ◌++◌}
use Rattle.std.proofs.Math.Path.{refl, ap}
use Rattle.std.proofs.Common.{sym, ◌∙◌, append_assoc, append-nil}
use Rattle.std.proofs.Math.Numerals.{add-one}
use Rattle.memory.specs.declared.LogicalAddress.{LogicalAddress}
use Rattle.plan.specs.Questions.{area_of}
use Rattle.plan.specs.declared.records.Plan.{Plan}
use Rattle.memory.specs.Numbers.{job_type_number}
use Rattle.rules.specs.Layout.{layout_of}
use Rattle.rules.specs.Machine.{Core}
use Rattle.rules.specs.Session.{Shown, shown_on, shown_to}
use Rattle.segment.specs.laws.Found.{segment_from, segment_from_lem}
use Rattle.segment.specs.Segments.{segment_at}
use Rattle.segment.specs.declared.Segment.{Segment}
use Rattle.state.specs.declared.DeviceState.TheVariants.{Runs}
use Rattle.state.specs.declared.Job.{Job}
use Rattle.texts.specs.Texts.{request_text}
use Rattle.shown.specs.Shown.{shown_text, shown_texts}

pub texts_more : (l : List Shown) (x : Shown) → shown_texts (l ++ (x ∷ [])) ≡ shown_texts l ++ shown_text x
unfolding shown_texts
texts_more [] x = append-nil (shown_text x)
texts_more (y ∷ l) x = ap (λ t. shown_text y ++ t) (texts_more l x) ∙ sym (append_assoc (shown_text y) (shown_texts l) (shown_text x))

module _ (p : Plan) (c : Core) where
  pub shown_none : shown_texts (shown_to p c 0) ≡ []
  unfolding shown_texts shown_to
  shown_none = refl

  pub shown_more : (d : ℕ) → shown_texts (shown_to p c d) ++ shown_text (shown_on p c.jobs (c.devices d).state) ≡ shown_texts (shown_to p c (d + 1))
  unfolding shown_to
  shown_more d = rw add-one (sym (texts_more (shown_to p c d) (shown_on p c.jobs (c.devices d).state)))

-- what a device shows that runs, by its area's due segment
pub request_shown : (p : Plan) (jobs : ℕ → Job) (r n : ℕ) (k : Job) (start : LogicalAddress) (s : Segment) → k ≡ jobs r → n ≡ job_type_number k.task.kind →
    start ≡ (area_of p.areas r).start → s ≡ segment_from p.sub_areas p.sub_area_count start.0 r k.task k.processed →
    request_text r n s.start.0 s.length ≡ shown_text (shown_on p jobs (Runs r 0))
unfolding layout_of
request_shown p jobs r n k start s job e at f =
    let n-is : n ≡ job_type_number (jobs r).task.kind = e ∙ ap (λ x. job_type_number x.task.kind) job in
    let s-is : s ≡ segment_at p r (jobs r).task (jobs r).processed
    = f ∙ ap (λ (x : LogicalAddress). segment_from p.sub_areas p.sub_area_count x.0 r k.task k.processed) at
    ∙ segment_from_lem p r k.task k.processed ∙ ap (λ (x : Job). segment_at p r x.task x.processed) job in
    rw (n-is, s-is)
