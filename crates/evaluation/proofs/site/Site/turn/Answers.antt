use Rattle.evaluation.proofs.Stacks.{on_top, no_frames}
use Rattle.evaluation.proofs.Steps.{popped_room, popped_steps, whole_up}
use Rattle.evaluation.proofs.site.Site.turn.Goals as goal

pub resume-requires : goal.resume-requires
resume-requires g c = popped_room c.requires c.in-Up.is (on_top _ c.in-Some.ensures.items)

pub returns-in-Some : goal.returns-in-Some
returns-in-Some g c = popped_steps c.requires c.in-Up.is (on_top _ c.in-Some.ensures.items) c.resume.ensures

pub returns-in-None : goal.returns-in-None
returns-in-None g c = whole_up c.requires c.in-Up.is (no_frames _ c.in-None.ensures.variant.1)
