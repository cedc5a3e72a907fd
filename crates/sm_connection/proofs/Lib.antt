mod Growing
mod Lasting
mod Reading
mod Seen
mod SessionLemmas
