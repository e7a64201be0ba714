-- What inner functions require of their input, and what they make of it; what `meaning` and `match_meaning` promise is said by the definitions of `sheet`.
pub mod Feeding
pub mod Met
pub mod FeedLaws
pub mod MeetLaws
