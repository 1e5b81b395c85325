pub mod FakeCalls
pub mod Contents
pub mod CallCounts
pub mod Log
pub mod Memory
pub mod Transcripts
pub mod NotedReads
