mod Asked
mod PassedOver
pub mod Returning
pub mod Coming
mod DoneRules
pub mod Ending
pub mod Falling
mod Following
pub mod Forward
mod Lasting
mod Levels
mod Making
pub mod Lowering
pub mod OtherBodies
pub mod AlikeSessions
pub mod TaleRules
pub mod TaleBodies
pub mod TaleGames
mod Running
mod Saying
mod OneStep
mod Tests
mod Walking
