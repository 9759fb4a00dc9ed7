use Rattle.loops.proofs.in_place.InPlaceOwner.round.Goals as goal

pub returns-clause-answer_value : goal.returns-clause-answer_value
returns-clause-answer_value c = c.round_change-change.ensures.answer_value c.args.self.now.manager.wear

pub returns-clause-image_after : goal.returns-clause-image_after
returns-clause-image_after c = c.round_change-change.ensures.image_after c.args.self.now.manager.wear

pub returns-clause-store_after : goal.returns-clause-store_after
returns-clause-store_after c = c.round_change-change.ensures.store_after c.args.self.now.manager.wear
