mod Pushing
mod Removing
mod Keeping
mod Sharing
mod Two
