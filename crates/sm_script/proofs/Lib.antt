mod Answered
mod RecordLemmas
