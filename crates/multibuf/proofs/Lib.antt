mod CopyLemmas
mod KeptFrames
mod RestLemmas
mod FitLemmas
