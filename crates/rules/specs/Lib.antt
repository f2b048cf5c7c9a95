-- The rules of document 01: one file a section, each definition under the sentence that it states. To read them, start with `step`
-- (Step.antt), the order of each call's replies; then `on_header` and `frame_rules`, from the end of Frames.antt backwards, and Calls.antt.
-- State.antt has what they look at, Ending.antt what ends a connection, Replies.antt the numbers, Settings.antt what `initial` is made of.
pub mod Settings
pub mod Replies
pub mod Lists
pub mod State
pub mod Ending
pub mod Frames
pub mod Calls
pub mod Step
