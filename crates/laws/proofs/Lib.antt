-- `Refusing` tells what is refused from what is done, `Ways` has every way out of a frame, `Small` bounds the frames that are sent, `States` has
-- each change of a state that fits, `FramePlaces` serves `CallPlaces`; the others prove the specs of their names.
pub mod Refusing
pub mod Ways
pub mod Small
pub mod States
pub mod Fitting
pub mod OneResult
pub mod Answers
pub mod Order
pub mod FramePlaces
pub mod CallPlaces
pub mod Starting
pub mod Showing
pub mod Rooms
pub mod Examples
pub mod ByRules
pub mod OneRule
pub mod AsksLeftOut
