mod Crossing
mod LineLemmas
