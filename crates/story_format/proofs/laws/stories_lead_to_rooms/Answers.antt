use Rattle.story_format.proofs.RoomLemmas.{story_leads, story_starts}
use Rattle.story_format.proofs.laws.stories_lead_to_rooms.Goals as goal

pub returns-clause-start : goal.returns-clause-start
returns-clause-start c = λ tables story. story_starts tables story

pub returns-clause-ways : goal.returns-clause-ways
returns-clause-ways c = λ tables room direction story. story_leads tables room direction story
