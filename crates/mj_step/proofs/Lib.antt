mod Replied
mod Seen
